-- The closed steps of a model: they stand first in its list, and none of them is refused.
use Rattle.std.proofs.Common.{◌≡◌, ℕ, Bool, true, false, cond, eqb, List, [], ◌∷◌, length, take, filter, Some, None, refl, sym, subst, inl, inr, ⊎_elim, arith}
use Rattle.std.specs.List.{slice_get}
use Rattle.std.proofs.lemmas.Bool.{or_cases, eqb-true, ne_eqb}
use Rattle.records.specs.declared.step.Step.{Step}
use Rattle.records.specs.Steps.{closed}
use Rattle.steps.specs.Models.{Model}
use Rattle.steps.specs.Steps.{steps}
use Rattle.steps.specs.Taking.{refusal}
use Rattle.steps.proofs.Laws.{step_laws}
use Rattle.steps.proofs.Listed.{in_listed}
use Rattle.steps.proofs.Members.{In, place_in}
use Rattle.engine.specs.Turns.{closed_steps}

pub closed_first : (m : Model) → take (length (filter closed (steps m))) (steps m) ≡ closed_steps m
unfolding closed_steps
closed_first m = step_laws.listing.closed_first m

-- what stands among the elements that pass
pub in_passing : {A : Type 0} (p : A → Bool) (xs : List A) (s : A) → In s (filter p xs) → In s xs × (p s ≡ true)
in_passing p [] s h = absurd h
in_passing p (x ∷ xs) s h = by (p x) refl h (λ k. in_passing p xs s k)
  where
    by : (b : Bool) → p x ≡ b → In s (cond b (x ∷ filter p xs) (filter p xs)) → (In s (filter p xs) → In s xs × (p s ≡ true)) → In s (x ∷ xs) × (p s ≡ true)
    by true e h more = ⊎_elim (λ same. (inl same, subst (λ y. p y ≡ true) (sym same) e)) (λ k. let r = more k in (inr r.0, r.1)) h
    by false e h more = let r = more h in (inr r.0, r.1)

not_three : (s : Step) → closed s ≡ true → eqb s.kind 3 ≡ false
not_three s h = ne_eqb s.kind 3 (λ e. ⊎_elim (λ z. let y = eqb-true s.kind 0 z in absurd (omega arith)) (λ z. let y = eqb-true s.kind 1 z in absurd (omega arith)) (or_cases (eqb s.kind 0) (eqb s.kind 1) h))

-- a closed step brings no values, and is not refused
pub closed_free : (m : Model) (i : ℕ) (s : Step) → slice_get (closed_steps m) i ≡ Some s → refusal m s [] ≡ None
unfolding closed_steps
closed_free m i s h =
    let r = in_passing closed (steps m) s (place_in s (filter closed (steps m)) i h) in
    let k = not_three s r.1 in
    let listed = in_listed s (steps m) r.0 in
    rw (listed, k)
