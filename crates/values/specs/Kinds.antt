-- The kinds of values and the numbers that stand for them in files and rows.
use Rattle.std.specs.Prelude.{◌≡◌, ℕ, Bool, true, false, cond, List, Some, None, Option, Result, MatchResult, codes, ◌==◌}
use Rattle.values.specs.declared.kind.Kind.{Kind}
use Rattle.values.specs.declared.kind.Kind.TheVariants.{Integer, Boolean}
use Rattle.values.specs.declared.kind.NoKind.{NoKind}

abbrev pub kind_number : Kind → ℕ
kind_number Integer = 1
kind_number Boolean = 2

abbrev pub kind_of_number : ℕ → Option Kind
kind_of_number n = cond (n == 1) (Some Integer) (cond (n == 2) (Some Boolean) None)

-- the kind that a number stands for, or the number where it stands for none
abbrev pub ReadsKind : ℕ → Result Kind NoKind → Type 0
ReadsKind n r = MatchResult r (λ k. kind_of_number n ≡ Some k) (λ e. (kind_of_number n ≡ None) × (e.0 ≡ n))

abbrev pub kind_name : Kind → List ℕ
kind_name Integer = codes "Integer"
kind_name Boolean = codes "Boolean"

abbrev pub same_kind : Kind → Kind → Bool
same_kind Integer Integer = true
same_kind Integer Boolean = false
same_kind Boolean Integer = false
same_kind Boolean Boolean = true

-- whether a kind is the awaited one; None awaits either
abbrev pub awaited : Option Kind → Kind → Bool
awaited None k = true
awaited (Some a) k = same_kind a k
