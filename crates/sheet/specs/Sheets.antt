-- The sheet of an expression.
use Rattle.std.specs.Prelude.{◌≡◌, ℕ, List, map, Ok, Err, vec_items, Result}
use Rattle.std.specs.Borrow.{Bor}
use Rattle.values.specs.declared.kind.Kind.{Kind}
use Rattle.values.specs.Rows.{row_of}
use Rattle.sheet.specs.declared.sheet.Sheet.{Sheet}
use Rattle.sheet.specs.declared.sheet.Stop.{Stop}
use Rattle.sheet.specs.declared.sheet.Stop.TheVariants.{Memory, Wrong}
use Rattle.sheet.specs.Checks.{check_line}
use Rattle.sheet.specs.Trees.{Tree, Expression, worth, lines}
use Rattle.sheet.specs.Words.{Word, word_of}

abbrev pub words_of : List (Bor (List ℕ)) → List Word
words_of texts = map (λ t. word_of t.now) texts

-- the sheet shows the working of a tree that the words write
pub record Shows (ws : List Word) (s : Sheet) (k : Kind) (t : Tree) : Type 0 where
  pub expression : Expression ws k t
  pub value : s.value ≡ row_of (worth t)
  pub all_lines : vec_items s.lines ≡ lines t

-- a sheet of the tree that the words write, or the check's fault; nothing is said where memory fails
abbrev pub Answered : List Word → Result Sheet Stop → Type 0
Answered ws (Ok s) = (k : Kind) × (t : Tree) × Shows ws s k t
Answered ws (Err Memory) = Unit {0}
Answered ws (Err (Wrong f)) = check_line ws ≡ Err f
