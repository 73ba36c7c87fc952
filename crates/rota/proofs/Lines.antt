-- Words by their places.
use Rattle.std.proofs.Common.{◌≡◌, ℕ, Bool, ◌||◌, List, [], ◌∷◌, get_or, refl, ap, arith, Bor}
use Rattle.std.specs.List.{list_any}
use Rattle.records.specs.declared.step.Step.{Step}
use Rattle.records.specs.Steps.{has}
use Rattle.choosers.specs.Meanings.{Question}
use Rattle.choosers.specs.Fairness.{some_has}
use Rattle.rota.specs.Words.{Written, StepWords, texts}

abbrev At : Bor (List ℕ) → List (Bor (List ℕ)) → Step → Type 0
At x ws s = Written (get_or ws 0 x).now (get_or ws 1 x).now (get_or ws 2 x).now (get_or ws 3 x).now (get_or ws 4 x).now (get_or ws 5 x).now (get_or ws 6 x).now s

-- words that write a step, by their places
pub fields : (x : Bor (List ℕ)) (ws : List (Bor (List ℕ))) (s : Step) → StepWords (texts ws) s → At x ws s
fields x (a ∷ b ∷ c ∷ d ∷ e ∷ f ∷ g ∷ []) s h = h.1
fields x [] s h = let n = h.0 in absurd (omega arith)
fields x (a ∷ []) s h = let n = h.0 in absurd (omega arith)
fields x (a ∷ b ∷ []) s h = let n = h.0 in absurd (omega arith)
fields x (a ∷ b ∷ c ∷ []) s h = let n = h.0 in absurd (omega arith)
fields x (a ∷ b ∷ c ∷ d ∷ []) s h = let n = h.0 in absurd (omega arith)
fields x (a ∷ b ∷ c ∷ d ∷ e ∷ []) s h = let n = h.0 in absurd (omega arith)
fields x (a ∷ b ∷ c ∷ d ∷ e ∷ f ∷ []) s h = let n = h.0 in absurd (omega arith)
fields x (a ∷ b ∷ c ∷ d ∷ e ∷ f ∷ g ∷ i ∷ ws) s h = let n = h.0 in absurd (omega arith)

-- a process in one of the steps
pub some_has_any : (p : ℕ) (q : Question) → list_any (has p) q ≡ some_has p q
some_has_any p [] = refl
some_has_any p (s ∷ ss) = ap (λ (b : Bool). has p s || b) (some_has_any p ss)
