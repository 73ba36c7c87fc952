-- What a chooser means: how it will answer.
use Rattle.std.specs.Prelude.{ℕ, ◌<◌, cond, List, [], ◌∷◌, length, Ok, Err, Result, ◌==◌}
use Rattle.records.specs.declared.step.Step.{Step}
use Rattle.choosers.specs.declared.answer.Declined.{Declined}

-- what a chooser is asked about: the closed steps
abbrev pub Question : Type 0
Question = List Step

-- something that depends on the questions asked from now on, the oldest first
abbrev pub Later : Type 0 → Type 0
Later X = List Question → X

-- the same, once one question has been asked
abbrev pub after : {X : Type 0} → Later X → Question → Later X
after f q = λ past. f (q ∷ past)

-- what a chooser answers: a pick, or that it declines
abbrev pub Answer : Type 0
Answer = Result ℕ Declined

abbrev pub declines : Answer
declines = Err (record {})

-- how each question is answered once some have been
abbrev pub Meaning : Type 0
Meaning = Later (Question → Answer)

-- a pick is a number below the count
abbrev pub BelowCount : Answer → Question → Type 0
BelowCount (Ok n) q = n < length q
BelowCount (Err d) q = Unit {0}

-- x where there is no step to pick, else y
abbrev pub when_empty : {X : Type 0} → Question → X → X → X
when_empty q x y = cond (length q == 0) x y

-- the picks of a chooser that declines only where there is no step to pick
abbrev pub Picker : Type 0
Picker = Later (Question → ℕ)

abbrev pub pick_of : ℕ → Question → Answer
pick_of n q = when_empty q declines (Ok n)

abbrev pub picking : Picker → Meaning
picking f = λ past q. pick_of (f past q) q

-- what a machine with states shows along the questions
abbrev pub along : {S X : Type 0} → (S → X) → (S → Question → S) → S → List Question → X
along out next s [] = out s
along out next s (q ∷ past) = along out next (next s q) past
