-- The first step that passes a test.
use Rattle.std.specs.Prelude.{◌≡◌, ℕ, ◌+◌, Bool, cond, [], ◌∷◌, Some, None, Option}
use Rattle.std.specs.Borrow.{Bor}
use Rattle.std.specs.Fn.{Shared, FnReturnsAt}
use Rattle.records.specs.declared.step.Step.{Step}
use Rattle.choosers.specs.Meanings.{Question}

-- x of what is there, or else y
abbrev pub by_some : {X : Type 0} → Option ℕ → (ℕ → X) → X → X
by_some (Some i) x y = x i
by_some None x y = y

-- the number of the first step that passes, where the first of all has number k
abbrev pub first_from : ℕ → (Step → Bool) → Question → Option ℕ
first_from k test [] = None
first_from k test (s ∷ ss) = cond (test s) (Some k) (first_from (k + 1) test ss)

abbrev pub first : (Step → Bool) → Question → Option ℕ
first test q = first_from 0 test q

-- each call of the test f, at a reference to a step, answers what t gives
abbrev pub TestsAs : {F : Type 0} → Shared F (Bor Step × Unit {0}) Bool → F → (Step → Bool) → Type 0
TestsAs g f t = (s : Step) (b : Bool) → FnReturnsAt g f s b → b ≡ t s
