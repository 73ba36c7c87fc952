-- The processes in a listed step are processes of the model.
use Rattle.std.proofs.Common.{◌≡◌, ℕ, ◌<◌, Bool, true, false, ◌||◌, ◌&&◌, eqb, length, refl, sym, ◌∙◌, subst, ⊎_elim, arith}
use Rattle.std.proofs.lemmas.Bool.{or_cases, and_parts, eqb-true}
use Rattle.std.proofs.lemmas.Option.{slice_get_within}
use Rattle.records.specs.declared.step.Step.{Step}
use Rattle.records.specs.Steps.{has}
use Rattle.steps.specs.Models.{Model}
use Rattle.steps.specs.Steps.{Offer, offers, steps}
use Rattle.steps.specs.Taking.{is_in}
use Rattle.steps.proofs.Listed.{listed_comes}
use Rattle.steps.proofs.Members.{In}
use Rattle.steps.proofs.Offered.{OfferOf, offer_of}
use Rattle.steps.proofs.Sources.{Comes, by_itself, in_meeting, going_out, coming_in}

pub offer_exists : (m : Model) (o : Offer) → OfferOf m o → o.process < length m.processes
offer_exists m o h = slice_get_within m.processes o.process h.one h.numbered

-- a step of one process, and one of two
alone_below : (n k q p : ℕ) (b : Bool) → eqb k 1 ≡ false → q < n → (eqb q p || (eqb k 1 && b)) ≡ true → p < n
alone_below n k q p b f h e =
    ⊎_elim (λ z. let y = eqb-true q p z in omega arith) (λ z. let y = (and_parts (eqb k 1) b z).0 in absurd (let x : ◌≡◌ {A = Bool} false true = sym f ∙ y in let w : ◌≡◌ {A = ℕ} 0 1 = cc in omega arith)) (or_cases (eqb q p) (eqb k 1 && b) e)

both_below : (n q r p : ℕ) → q < n → r < n → (eqb q p || (true && eqb r p)) ≡ true → p < n
both_below n q r p h k e = ⊎_elim (λ z. let y = eqb-true q p z in omega arith) (λ z. let y = eqb-true r p z in omega arith) (or_cases (eqb q p) (eqb r p) e)

module _ (m : Model) (p : ℕ) where
  abbrev Exists : Step → Type 0
  Exists s = has p s ≡ true → p < length m.processes

  exists : (o : Offer) → In o (offers m) → o.process < length m.processes
  exists o h = offer_exists m o (offer_of m o h)

  comes_exists : (s : Step) → Comes m.behaviour (offers m) s → Exists s
  comes_exists s (by_itself o h q e) = subst Exists (sym e) (alone_below _ 0 o.process p (eqb 255 p) refl (exists o h))
  comes_exists s (in_meeting x r h l q) = subst Exists (sym q.receiver.is) (both_below _ x.process r.process p (exists x h) (exists r l))
  comes_exists s (going_out o h q) = subst Exists (sym q.is) (alone_below _ 2 o.process p (eqb 255 p) refl (exists o h))
  comes_exists s (coming_in o h q) = subst Exists (sym q.is) (alone_below _ 3 o.process p (eqb 255 p) refl (exists o h))

pub processes_exist : (m : Model) (s : Step) (p : ℕ) → is_in s (steps m) ≡ true → has p s ≡ true → p < length m.processes
processes_exist m s p h = comes_exists m p s (listed_comes m s h)
