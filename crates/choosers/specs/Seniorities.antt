-- Seniority: it serves who has been in no picked step for longest. Its state is the order of the processes.
use Rattle.std.specs.Prelude.{◌≡◌, ℕ, suc, ◌<◌, cond, List, [], ◌∷◌, ◌++◌, length, Some, None, Option, ◌==◌, slice_index_or}
use Rattle.records.specs.declared.step.Step.{Step}
use Rattle.records.specs.Steps.{has, no_step}
use Rattle.choosers.specs.Meanings.{Question, Picker, along}
use Rattle.choosers.specs.Fairness.{Waits}
use Rattle.choosers.specs.Firsts.{by_some, first}

-- the order at first
abbrev pub by_number : List ℕ
by_number = 0 ∷ 1 ∷ 2 ∷ 3 ∷ 4 ∷ 5 ∷ 6 ∷ 7 ∷ []

-- the first step of the frontmost process that is in one
abbrev pub senior_step : List ℕ → Question → Option ℕ
senior_step [] q = None
senior_step (p ∷ ps) q = by_some (first (has p) q) (λ i. Some i) (senior_step ps q)

-- it picks that step; the first of all where it finds none
abbrev pub seniority_pick : List ℕ → Question → ℕ
seniority_pick order q = by_some (senior_step order q) (λ i. i) 0

-- a process moves to the end
abbrev pub to_end : ℕ → List ℕ → List ℕ
to_end p [] = []
to_end p (x ∷ xs) = cond (x == p) (xs ++ x ∷ []) (x ∷ to_end p xs)

-- the process of a step does, and then the partner in a meeting
abbrev pub demoted : Step → List ℕ → List ℕ
demoted s order = cond (s.kind == 1) (to_end s.partner (to_end s.process order)) (to_end s.process order)

abbrev pub seniority_next : List ℕ → Question → List ℕ
seniority_next order q = by_some (senior_step order q) (λ i. demoted (slice_index_or q i no_step) order) order

abbrev pub seniority : List ℕ → Picker
seniority = along seniority_pick seniority_next

-- how many are in front of p: its wait
abbrev pub place : ℕ → List ℕ → ℕ
place p [] = 0
place p (x ∷ xs) = cond (x == p) 0 (suc (place p xs))

abbrev pub seniority_waits : List ℕ → Waits
seniority_waits = along (λ order p. place p order) seniority_next

-- eight places, with every process in one
abbrev pub Complete : List ℕ → Type 0
Complete order = (length order ≡ 8) × ((p : ℕ) → p < 8 → place p order < 8)
