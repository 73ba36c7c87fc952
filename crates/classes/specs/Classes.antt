-- The classes of an admitted file, by number.
use Rattle.std.specs.Prelude.{◌≡◌, ℕ, zero, suc, ◌+◌, ◌≤◌, List, [], ◌∷◌, map, length, Some, Ok}
use Rattle.std.specs.List.{slice_get}
use Rattle.values.specs.declared.row.Row.{Row}
use Rattle.values.specs.Rows.{row_of}
use Rattle.commands.specs.Stands.{StmtAt}
use Rattle.commands.specs.Trees.{Class, File}
use Rattle.heads.specs.declared.class.Scope.{Scope}
use Rattle.heads.specs.Heads.{byte, row_at, values_at, declarations_at, class_declarations, statement_place}
use Rattle.heads.specs.Scopes.{Within}
use Rattle.admission.specs.Read.{read}

-- class number k of the tree of an admitted file
abbrev pub ClassOf : List ℕ → ℕ → Class → Type 0
ClassOf f k c = (t : File) × (read f ≡ Ok t) × (slice_get t.classes k ≡ Some c)

-- the rows of some variables from a place on
abbrev pub rows_at : ℕ → List ℕ → ℕ → List Row
rows_at zero f at = []
rows_at (suc n) f at = row_at f at ∷ rows_at n f (at + 6)

-- the bytes of a class begin at a place of the file, with the number of its variables
pub record Begins (f : List ℕ) (at : ℕ) (c : Class) : Type 0 where
  pub variables : values_at (byte f at) f (at + 1) ≡ c.variables
  pub rows : rows_at (byte f at) f (at + 1) ≡ map row_of c.variables
  pub declarations : class_declarations f at ≡ c.declarations
  pub statement : StmtAt f (statement_place f at) c.statement
  pub within : statement_place f at ≤ length f
  pub short : length f ≤ 4096

-- where the variables and declarations of a class stand in the file
pub record Scoped (f : List ℕ) (s : Scope) (c : Class) : Type 0 where
  pub within : Within f s
  pub variables : values_at s.variables.count f s.variables.at ≡ c.variables
  pub rows : rows_at s.variables.count f s.variables.at ≡ map row_of c.variables
  pub declarations : declarations_at s.declarations.count f s.declarations.at ≡ c.declarations
