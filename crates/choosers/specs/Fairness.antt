-- When picks are fair, and what follows for a process that waits.
use Rattle.std.specs.Prelude.{◌≡◌, ℕ, ◌+◌, ◌<◌, ◌≤◌, Bool, true, false, ◌||◌, List, [], ◌∷◌, ◌++◌, length, slice_index_or}
use Rattle.std.specs.List.{AllByRecursion}
use Rattle.records.specs.declared.step.Step.{Step}
use Rattle.records.specs.Steps.{has, no_step}
use Rattle.choosers.specs.Meanings.{Question, Later, Picker, after}

-- the wait of each process, once some questions have been answered
abbrev pub Waits : Type 0
Waits = Later (ℕ → ℕ)

-- process p is in one of the steps
abbrev pub some_has : ℕ → Question → Bool
some_has p [] = false
some_has p (s ∷ ss) = has p s || some_has p ss

-- every process in the step has a number from 0 to 7
abbrev pub Numbered : Step → Type 0
Numbered s = (p : ℕ) → has p s ≡ true → p < 8

-- a proper question has a step, and no process from 8 on
abbrev pub Proper : Question → Type 0
Proper q = (0 < length q) × AllByRecursion Numbered q

-- every wait of a process 0 to 7 is from 0 to B
abbrev pub Within : ℕ → (ℕ → ℕ) → Type 0
Within B w = (p : ℕ) → p < 8 → w p ≤ B

-- the pick of step n, by waits w before it and w' after it: whoever is in some step but not in that one waits less
abbrev pub Lowers : (ℕ → ℕ) → (ℕ → ℕ) → Question → ℕ → Type 0
Lowers w w' q n = (p : ℕ) → p < 8 → some_has p q ≡ true → has p (slice_index_or q n no_step) ≡ false → w' p < w p

-- fair picks, by the waits w of bound B, in answer to proper questions
pub record Fair (B : ℕ) (f : Picker) (w : Waits) : Type 0 where
  pub below : (past : List Question) (q : Question) → 0 < length q → f past q < length q
  pub within : (past : List Question) → AllByRecursion Proper past → Within B (w past)
  pub falls : (past : List Question) → AllByRecursion Proper past → (q : Question) → Proper q → Lowers (w past) (w (past ++ q ∷ [])) q (f past q)

-- process p is in one of the steps picked in answer to these questions, one after the other
abbrev pub served : ℕ → Picker → List Question → Bool
served p f [] = false
served p f (q ∷ qs) = has p (slice_index_or q (f [] q) no_step) || served p (after f q) qs

-- a process in some closed step at each of B + 1 successive picks is in one of the steps picked
abbrev pub Serves : ℕ → Picker → Type 0
Serves B f =
    (qs : List Question) → length qs ≡ B + 1 → AllByRecursion Proper qs → (p : ℕ) → p < 8 → AllByRecursion (λ q. some_has p q ≡ true) qs →
    served p f qs ≡ true

-- fair picks do so
abbrev pub FairServes : Type 0
FairServes = (B : ℕ) (f : Picker) (w : Waits) → Fair B f w → Serves B f
