-- Expressions as trees: their prefix form, their value, and the operations in the order of working.
use Rattle.std.specs.Prelude.{◌≡◌, ℕ, ◌+◌, ◌≤◌, max, true, List, [], ◌∷◌, ◌++◌, map, Some, Ok}
use Rattle.std.specs.List.{slice_get}
use Rattle.values.specs.declared.kind.Kind.{Kind}
use Rattle.values.specs.declared.kind.Kind.TheVariants.{Boolean}
use Rattle.values.specs.declared.op.Op.{Op}
use Rattle.values.specs.declared.row.Row.{Row}
use Rattle.values.specs.Kinds.{awaited}
use Rattle.values.specs.Ops.{part_kind, gives, apply}
use Rattle.values.specs.Rows.{row_of, value_of_row}
use Rattle.values.specs.Values.{Val, boolean, kind_of, negate, as_truth}
use Rattle.sheet.specs.declared.line.Line.{Line}
use Rattle.sheet.specs.declared.line.Line.TheVariants.{Not as NotLine, Binary as BinaryLine}
use Rattle.sheet.specs.declared.word.Term.{Term}
use Rattle.sheet.specs.declared.word.Term.TheVariants.{Value, Not, Binary}
use Rattle.sheet.specs.Checks.{check_line}
use Rattle.sheet.specs.Words.{Word}

pub data Tree : Type 0 where
  leaf : Row → Tree
  negation : Tree → Tree
  operation : Op → Tree → Tree → Tree

-- the prefix form
abbrev pub written : Tree → List Term
written (leaf r) = Value r ∷ []
written (negation a) = Not ∷ written a
written (operation op a b) = Binary op ∷ (written a ++ written b)

abbrev pub worth : Tree → Val
worth (leaf r) = value_of_row r
worth (negation a) = boolean (negate (as_truth (worth a)))
worth (operation op a b) = apply op (worth a) (worth b)

-- each operation as it is worked out, first part before second
abbrev pub lines : Tree → List Line
lines (leaf r) = []
lines (negation a) = lines a ++ (NotLine (row_of (worth a)) (row_of (worth (negation a))) ∷ [])
lines (operation op a b) = lines a ++ (lines b ++ (BinaryLine op (row_of (worth a)) (row_of (worth b)) (row_of (worth (operation op a b))) ∷ []))

abbrev pub tree_kind : Tree → Kind
tree_kind (leaf r) = kind_of (value_of_row r)
tree_kind (negation a) = Boolean
tree_kind (operation op a b) = gives op

-- each part has the kind that its operation takes
abbrev pub Kinded : Tree → Type 0
Kinded (leaf r) = Unit {0}
Kinded (negation a) = (tree_kind a ≡ Boolean) × Kinded a
Kinded (operation op a b) = (awaited (part_kind op) (tree_kind a) ≡ true) × (tree_kind b ≡ tree_kind a) × Kinded a × Kinded b

abbrev pub depth : Tree → ℕ
depth (leaf r) = 1
depth (negation a) = 1 + depth a
depth (operation op a b) = 1 + max (depth a) (depth b)

-- the words are the prefix form of a tree that keeps the rules
pub record Expression (ws : List Word) (k : Kind) (t : Tree) : Type 0 where
  pub words : ws ≡ map (λ x. Ok x) (written t)
  pub kinds : Kinded t
  pub kind : tree_kind t ≡ k
  pub deep : depth t ≤ 32

-- the check accepts exactly the expressions that keep the rules, and no words are two expressions
pub record ReadsExpressions : Type 0 where
  pub sound : (ws : List Word) (k : Kind) → check_line ws ≡ Ok k → (t : Tree) × Expression ws k t
  pub complete : (ws : List Word) (k : Kind) (t : Tree) → Expression ws k t → check_line ws ≡ Ok k
  pub one : (t u : Tree) → written t ≡ written u → t ≡ u
  pub kind_kept : (t : Tree) → kind_of (worth t) ≡ tree_kind t

-- how many words a tree has
abbrev pub size : Tree → ℕ
size (leaf r) = 1
size (negation a) = 1 + size a
size (operation op a b) = 1 + size a + size b

-- the words from a place on begin with a tree's prefix form
abbrev pub Stands : List Word → ℕ → Tree → Type 0
Stands ws at (leaf r) = slice_get ws at ≡ Some (Ok (Value r))
Stands ws at (negation a) = (slice_get ws at ≡ Some (Ok Not)) × Stands ws (at + 1) a
Stands ws at (operation op a b) = (slice_get ws at ≡ Some (Ok (Binary op))) × Stands ws (at + 1) a × Stands ws (at + 1 + size a) b

-- what working out a tree gives: its value, the place behind it, and its lines behind those before
pub record Worked (t : Tree) (at : ℕ) (value : Row) (end : ℕ) (before after : List Line) : Type 0 where
  pub value_is : value ≡ row_of (worth t)
  pub end_is : end ≡ at + size t
  pub lines_are : after ≡ before ++ lines t
