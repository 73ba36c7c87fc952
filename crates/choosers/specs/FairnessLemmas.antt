-- Fair picks after a question, and how a machine with states shows that its picks are fair.
use Rattle.std.specs.Prelude.{ℕ, ◌<◌, List, [], ◌∷◌, ◌++◌, length}
use Rattle.choosers.specs.Meanings.{Question, Picker, after, along}
use Rattle.choosers.specs.Fairness.{Waits, Fair, Proper, Within, Lowers}

pub fair_after : (B : ℕ) (m : Picker) (w : Waits) (q : Question) → Proper q → Fair B m w → Fair B (after m q) (after w q)
fair_after B m w q k f = record {
  below = λ past. f.below (q ∷ past);
  within = λ past proper. f.within (q ∷ past) (k, proper);
  falls = λ past proper. f.falls (q ∷ past) (k, proper);
}

-- a machine whose states are Ok and whose picks lower the waits
pub record Machine {S : Type 0} (B : ℕ) (answer : S → Question → ℕ) (next : S → Question → S) (wait : S → ℕ → ℕ) (Ok : S → Type 0) : Type 0 where
  pub keeps : (s : S) (q : Question) → Ok s → Ok (next s q)
  pub bounds : (s : S) → Ok s → Within B (wait s)
  pub answers : (s : S) (q : Question) → Ok s → 0 < length q → answer s q < length q
  pub lowers : (s : S) (q : Question) → Ok s → Lowers (wait s) (wait (next s q)) q (answer s q)

module _ {S : Type 0} (B : ℕ) (answer : S → Question → ℕ) (next : S → Question → S) (wait : S → ℕ → ℕ) (Ok : S → Type 0) (machine : Machine B answer next wait Ok) where
  bounds_along : (past : List Question) (s : S) → Ok s → Within B (along wait next s past)
  bounds_along [] s ok = machine.bounds s ok
  bounds_along (q ∷ past) s ok = bounds_along past (next s q) (machine.keeps s q ok)

  answers_along : (past : List Question) (s : S) → Ok s → (q : Question) → 0 < length q → along answer next s past q < length q
  answers_along [] s ok q h = machine.answers s q ok h
  answers_along (x ∷ past) s ok q h = answers_along past (next s x) (machine.keeps s x ok) q h

  lowers_along : (past : List Question) (s : S) → Ok s → (q : Question) → Lowers (along wait next s past) (along wait next s (past ++ q ∷ [])) q (along answer next s past q)
  lowers_along [] s ok q = machine.lowers s q ok
  lowers_along (x ∷ past) s ok q = lowers_along past (next s x) (machine.keeps s x ok) q

  pub fair_machine : (s : S) → Ok s → Fair B (along answer next s) (along wait next s)
  fair_machine s ok = record {
    below = λ past q h. answers_along past s ok q h;
    within = λ past _. bounds_along past s ok;
    falls = λ past _ q _. lowers_along past s ok q;
  }
