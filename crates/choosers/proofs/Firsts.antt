-- The first step that passes, as a loop finds it.
use Rattle.std.proofs.Common.{◌≡◌, ℕ, ◌+◌, ◌<◌, Bool, true, false, length, drop, Some, slice_index_or, ◌∙◌}
use Rattle.std.proofs.lemmas.List.{at_drop_more}
use Rattle.std.proofs.lemmas.Bool.{cond-true, cond-false}
use Rattle.records.specs.declared.step.Step.{Step}
use Rattle.choosers.specs.Meanings.{Question}
use Rattle.choosers.specs.Firsts.{first_from}

module _ (test : Step → Bool) (q : Question) (i : ℕ) where
  pub first_here : (d : Step) → i < length q → test (slice_index_or q i d) ≡ true → first_from i test (drop i q) ≡ Some i
  first_here d h t = at_drop_more (first_from i test) q i d h ∙ cond-true _ _ _ t

  pub first_more : (d : Step) → i < length q → test (slice_index_or q i d) ≡ false → first_from i test (drop i q) ≡ first_from (i + 1) test (drop (i + 1) q)
  first_more d h t = at_drop_more (first_from i test) q i d h ∙ cond-false _ _ _ t
