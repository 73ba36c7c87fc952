-- Hold, with K over fair picks: it lets a process go on with its internal steps. Its state is what is below, what is left, and the kept process.
use Rattle.std.specs.Prelude.{ℕ, zero, suc, ◌+◌, ◌-◌, ◌*◌, [], ◌∷◌, None, Option, slice_index_or}
use Rattle.records.specs.Steps.{internal_of, no_step}
use Rattle.choosers.specs.Meanings.{Question, Picker, after, when_empty}
use Rattle.choosers.specs.Fairness.{Waits}
use Rattle.choosers.specs.Firsts.{by_some, first}

-- the first internal step of the kept process, while some is left
abbrev pub held : ℕ → ℕ → Question → Option ℕ
held zero kept q = None
held (suc n) kept q = first (internal_of kept) q

-- the process of the step that f picks
abbrev pub keeps : Picker → Question → ℕ
keeps f q = (slice_index_or q (f [] q) no_step).process

-- after a question: held on, with less left; or asked below, with K left; a question with no step changes nothing
abbrev pub hold_turn : {X : Type 0} → ℕ → ℕ → Question → X → X → X → X
hold_turn left kept q on below same = when_empty q same (by_some (held left kept q) (λ _. on) below)

abbrev pub hold : ℕ → Picker → ℕ → ℕ → Picker
hold K f left kept [] q = when_empty q 0 (by_some (held left kept q) (λ i. i) (f [] q))
hold K f left kept (p ∷ past) q = hold_turn left kept p (hold K f (left - 1) kept past q) (hold K (after f p) K (keeps f p) past q) (hold K f left kept past q)

abbrev pub hold_waits : ℕ → Picker → Waits → ℕ → ℕ → Waits
hold_waits K f w left kept [] = λ p. (K + 1) * w [] p + left
hold_waits K f w left kept (q ∷ past) = hold_turn left kept q (hold_waits K f w (left - 1) kept past) (hold_waits K (after f q) (after w q) K (keeps f q) past) (hold_waits K f w left kept past)
