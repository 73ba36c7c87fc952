-- The turns of a rota.
use Rattle.std.specs.Prelude.{ℕ, ◌+◌, ◌-◌, ◌^◌, min, cond, not, ◌&&◌, List, [], ◌∷◌, ◌++◌, Some, None, codes, decimal, Ok, Err, Option, slice_index, slice_index_or}
use Rattle.records.specs.declared.step.Step.{Step}
use Rattle.records.specs.Steps.{has, no_step, spaced, step_text}
use Rattle.choosers.specs.Meanings.{Question, Answer, when_empty}
use Rattle.choosers.specs.Fairness.{some_has}
use Rattle.rota.specs.declared.turns.Turn.{Turn}
use Rattle.rota.specs.declared.turns.Waiting.{Waiting}
use Rattle.rota.specs.declared.turns.Picked.{Picked}

-- one more, as far as a count of the code goes
abbrev pub one_more : ℕ → ℕ
one_more n = min (n + 1) (2 ^ 64 - 1)

-- the waiting of process p, by what it was: one more where it is in some closed step but not in the picked one, s
abbrev pub passed_over : Question → Step → ℕ → ℕ → ℕ
passed_over q s p w = cond (some_has p q && not (has p s)) (one_more w) 0

abbrev pub no_waiting : Waiting
no_waiting = record { turns = 0 ∷ 0 ∷ 0 ∷ 0 ∷ 0 ∷ 0 ∷ 0 ∷ 0 ∷ [] }

-- the waiting of each process 0 to 7
unfoldable pub waiting_after : Question → Step → Waiting → Waiting
waiting_after q s w =
    let at : ℕ → ℕ = λ p. passed_over q s p (slice_index w.turns p) in
    record { turns = at 0 ∷ at 1 ∷ at 2 ∷ at 3 ∷ at 4 ∷ at 5 ∷ at 6 ∷ at 7 ∷ [] }

-- a declined turn changes nothing
abbrev pub waiting_by : Answer → Waiting → Question → Waiting
waiting_by (Ok n) w q = waiting_after q (slice_index_or q n no_step) w
waiting_by (Err d) w q = w

-- a turn without a step is passed over

abbrev pub waiting_next : Answer → Waiting → Question → Waiting
waiting_next a w q = when_empty q w (waiting_by a w q)

abbrev pub turns_after : ℕ → Question → ℕ
turns_after t q = when_empty q t (one_more t)

abbrev pub outcome_of : Answer → Waiting → Question → Option Picked
outcome_of (Ok n) w q = Some (record { number = n; step = slice_index_or q n no_step; waiting = waiting_after q (slice_index_or q n no_step) w })
outcome_of (Err d) w q = None

abbrev pub turn_of : Answer → ℕ → Waiting → Question → Option Turn
turn_of a t w q = when_empty q None (Some (record { turn = one_more t; outcome = outcome_of a w q }))

-- what is written of a turn

abbrev pub waiting_text : Waiting → List ℕ
waiting_text w =
    let at : ℕ → ℕ = λ p. slice_index w.turns p in
    spaced (at 0) (spaced (at 1) (spaced (at 2) (spaced (at 3) (spaced (at 4) (spaced (at 5) (spaced (at 6) (decimal (at 7))))))))

abbrev pub picked_text : Picked → List ℕ
picked_text p = codes "pick " ++ (decimal p.number ++ (codes ": " ++ (step_text p.step ++ (codes "; waiting " ++ waiting_text p.waiting))))

abbrev pub outcome_text : Option Picked → List ℕ
outcome_text (Some p) = picked_text p
outcome_text None = codes "declined"

abbrev pub turn_text : Turn → List ℕ
turn_text t = codes "turn " ++ (decimal t.turn ++ (codes " " ++ outcome_text t.outcome))
