-- Rotation: it serves processes in a circle of 8. Its state is the cursor.
use Rattle.std.specs.Prelude.{ℕ, zero, suc, ◌+◌, ◌-◌, ◌%◌, min, cond, Some, None, Option, ◌==◌, nat_lt}
use Rattle.records.specs.declared.step.Step.{Step}
use Rattle.records.specs.Steps.{has}
use Rattle.choosers.specs.Meanings.{Question, Picker, along}
use Rattle.choosers.specs.Fairness.{Waits}
use Rattle.choosers.specs.Firsts.{by_some, first}

-- the nearest process at or after c, round 8, that is in a step, of n processes
abbrev pub nearest : ℕ → ℕ → Question → Option ℕ
nearest zero c q = None
nearest (suc n) c q = by_some (first (has c) q) (λ _. Some c) (nearest n ((c + 1) % 8) q)

-- the number of the first step that process p is in
abbrev pub first_of : ℕ → Question → ℕ
first_of p q = by_some (first (has p) q) (λ i. i) 0

-- it picks the first step of that process; the first of all where it finds none
abbrev pub rotation_pick : ℕ → Question → ℕ
rotation_pick c q = by_some (nearest 8 c q) (λ p. first_of p q) 0

-- the cursor moves behind that process
abbrev pub rotation_next : ℕ → Question → ℕ
rotation_next c q = by_some (nearest 8 c q) (λ p. (p + 1) % 8) c

abbrev pub rotation : ℕ → Picker
rotation = along rotation_pick rotation_next

-- how far a process is from the cursor: its wait
abbrev pub ahead : ℕ → ℕ → ℕ
ahead c p = ((8 + p) - c) % 8

abbrev pub rotation_waits : ℕ → Waits
rotation_waits = along ahead rotation_next

-- the same of any number, 8 for none of the eight, and of a step: its nearest process

abbrev pub reach : ℕ → ℕ → ℕ
reach c p = cond (nat_lt p 8) (ahead c p) 8

abbrev pub away : ℕ → Step → ℕ
away c s = cond (s.kind == 1) (min (reach c s.process) (reach c s.partner)) (reach c s.process)

-- where the cursor goes for a process so far away
abbrev pub behind : ℕ → ℕ → ℕ
behind c d = cond (nat_lt d 8) ((c + d + 1) % 8) c
