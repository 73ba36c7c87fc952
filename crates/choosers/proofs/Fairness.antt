-- Fair picks: what follows from them.
use Rattle.std.proofs.Common.{◌≡◌, ℕ, ◌<◌, ◌≤◌, Bool, true, false, List, [], ◌∷◌, length, slice_index_or, sym, refl, ap, ◌∙◌, arith}
use Rattle.std.specs.List.{AllByRecursion}
use Rattle.std.proofs.lemmas.Bool.{or_parts}
use Rattle.records.specs.Steps.{has, no_step}
use Rattle.choosers.specs.Meanings.{Question, Picker, after}
use Rattle.choosers.specs.Fairness.{Waits, Fair, Proper, Lowers, FairServes, some_has, served}
use Rattle.choosers.specs.FairnessLemmas.{fair_after}

-- a process that is passed over waits at least as long as the picks that pass it over
passed : (B : ℕ) (m : Picker) (w : Waits) (p : ℕ) → p < 8 → Fair B m w → (qs : List Question) → AllByRecursion Proper qs → AllByRecursion (λ q. some_has p q ≡ true) qs → served p m qs ≡ false → length qs ≤ w [] p
passed B m w p h f [] _ _ _ = omega arith
passed B m w p h f (q ∷ qs) (proper, rest) (here, more) no-pick =
    let parts = or_parts (has p (slice_index_or q (m [] q) no_step)) (served p (after m q) qs) no-pick in
    let least = passed B (after m q) (after w q) p h (fair_after B m w q proper f) qs rest more parts.1 in
    let lower = f.falls [] tt q proper p h here parts.0 in
    omega arith

pub serves : FairServes
serves B m w f qs n proper p h all = go (served p m qs) refl
  where
    go : (b : Bool) → served p m qs ≡ b → served p m qs ≡ true
    go true e = e
    go false e =
        let least = passed B m w p h f qs proper all e in
        let most = f.within [] tt p h in
        absurd (omega arith)

-- one pick under fair picks: it is a step's number, and lowers the waits
module _ {B : ℕ} {m : Picker} {w : Waits} (f : Fair B m w) (q : Question) {n : ℕ} (a : n ≡ m [] q) where
  pub fair_below : 0 < length q → n < length q
  fair_below h = rw a (f.below [] q h)

  pub fair_lowers : {w' : Waits} → w' ≡ after w q → Proper q → Lowers (w []) (w' []) q n
  fair_lowers e proper = λ p h has_p no_p. rw e (f.falls [] tt q proper p h has_p (ap (λ i. has p (slice_index_or q i no_step)) (sym a) ∙ no_p))
