-- What the first step that passes is.
use Rattle.std.specs.Prelude.{◌≡◌, ℕ, suc, ◌+◌, ◌-◌, ◌<◌, ◌≤◌, Bool, true, false, [], ◌∷◌, length, Some, None, Option, slice_index_or, refl}
use Rattle.std.proofs.Common.{sym, ◌∙◌, arith}
use Rattle.std.proofs.lemmas.Bool.{cond-true, cond-false}
use Rattle.records.specs.declared.step.Step.{Step}
use Rattle.records.specs.Steps.{has, no_step}
use Rattle.choosers.specs.Meanings.{Question}
use Rattle.choosers.specs.Fairness.{some_has}
use Rattle.choosers.specs.Firsts.{first, first_from}

never : {A : Type 0} (i : ℕ) → ◌≡◌ {A = Option ℕ} None (Some i) → A
never i e = let z : ◌≡◌ {A = ℕ} 0 1 = cc in absurd (omega arith)

pub record Found (test : Step → Bool) (k : ℕ) (q : Question) (i : ℕ) : Type 0 where
  pub from : k ≤ i
  pub below : i < k + length q
  pub passes : test (slice_index_or q (i - k) no_step) ≡ true

pub found : (test : Step → Bool) (k : ℕ) (q : Question) (i : ℕ) → first_from k test q ≡ Some i → Found test k q i
found test k [] i e = never i e
found test k (s ∷ ss) i e = go (test s) refl (λ h. found test (k + 1) ss i h)
  where
    go : (b : Bool) → test s ≡ b → (first_from (k + 1) test ss ≡ Some i → Found test (k + 1) ss i) → Found test k (s ∷ ss) i
    go true t _ =
        let j : k ≡ i = cc (cond-true (test s) (Some k) (first_from (k + 1) test ss) t) in
        record {
          from = omega arith;
          below = omega arith;
          passes = let z : i - k ≡ 0 = omega arith in rw z t;
        }
    go false t more =
        let f = more (sym (cond-false (test s) (Some k) (first_from (k + 1) test ss) t) ∙ e) in
        let from = f.from in
        let below = f.below in
        record {
          from = omega arith;
          below = omega arith;
          passes = let z : i - k ≡ suc (i - (k + 1)) = omega arith in rw z f.passes;
        }

pub found_some : (p : ℕ) (k : ℕ) (q : Question) → first_from k (has p) q ≡ None → some_has p q ≡ false
found_some p k [] e = refl
found_some p k (s ∷ ss) e = go (has p s) refl (λ h. found_some p (k + 1) ss h)
  where
    go : (b : Bool) → has p s ≡ b → (first_from (k + 1) (has p) ss ≡ None → some_has p ss ≡ false) → some_has p (s ∷ ss) ≡ false
    go true t _ = never k (sym e ∙ cond-true (has p s) (Some k) (first_from (k + 1) (has p) ss) t)
    go false t more = rw t (more (sym (cond-false (has p s) (Some k) (first_from (k + 1) (has p) ss) t) ∙ e))

pub found_first : (test : Step → Bool) (q : Question) (i : ℕ) → first test q ≡ Some i → (i < length q) × (test (slice_index_or q i no_step) ≡ true)
found_first test q i e =
    let f = found test 0 q i e in
    let below = f.below in
    let z : i - 0 ≡ i = omega arith in
    (omega arith, rw z at f.passes)
