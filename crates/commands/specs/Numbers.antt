-- Operands of one, two and four bytes, low byte first.
use Rattle.std.specs.Prelude.{ℕ, ◌+◌, ◌*◌, List, [], ◌∷◌, Some, None, Option}

abbrev pub two_bytes : ℕ → ℕ → ℕ
two_bytes a b = a + b * 256

abbrev pub four_bytes : ℕ → ℕ → ℕ → ℕ → ℕ
four_bytes a b c d = a + b * 256 + c * 65536 + d * 16777216

abbrev pub one : {A : Type 0} → (ℕ → A) → List ℕ → Option A
one f [] = None
one f (a ∷ rest) = Some (f a)

abbrev pub two : {A : Type 0} → (ℕ → ℕ → A) → List ℕ → Option A
two f [] = None
two f (a ∷ []) = None
two f (a ∷ b ∷ rest) = Some (f a b)

abbrev pub three : {A : Type 0} → (ℕ → ℕ → ℕ → A) → List ℕ → Option A
three f [] = None
three f (a ∷ []) = None
three f (a ∷ b ∷ []) = None
three f (a ∷ b ∷ c ∷ rest) = Some (f a b c)

abbrev pub four : {A : Type 0} → (ℕ → ℕ → ℕ → ℕ → A) → List ℕ → Option A
four f [] = None
four f (a ∷ rest) = three (f a) rest

-- a place, which is a number of two bytes
abbrev pub place : {A : Type 0} → (ℕ → A) → List ℕ → Option A
place f = two (λ a b. f (two_bytes a b))
