-- A fresh process of a class.
use Rattle.std.specs.Prelude.{◌≡◌, ℕ, ◌-◌, ◌≤◌, List, [], ◌∷◌, map, length, take, drop, replicate, None}
use Rattle.values.specs.declared.row.Row.{Row}
use Rattle.values.specs.Rows.{row_of}
use Rattle.values.specs.Values.{integer}
use Rattle.commands.specs.Trees.{Class}
use Rattle.processes.specs.Evaluation.{values_of}
use Rattle.processes.specs.Found.{ProcessAt, StmtsAt}
use Rattle.processes.specs.Places.{places_of}
use Rattle.classes.specs.declared.fresh.Fresh.{Fresh}

abbrev pub unknown_row : Row
unknown_row = row_of (integer None)

-- a process of a class that has done nothing yet
pub record FreshOf (f : List ℕ) (c : Class) (p : Fresh) : Type 0 where
  pub count : p.variables ≡ length c.variables
  pub few : p.variables ≤ 8
  pub rows : take p.variables p.rows ≡ map row_of c.variables
  pub others : drop p.variables p.rows ≡ replicate (8 - p.variables) unknown_row
  pub values : values_of (take p.variables p.rows) ≡ c.variables
  pub stands : StmtsAt f (places_of p.left) (c.statement ∷ [])
  pub process : ProcessAt f p.left c.variables c (c.statement ∷ [])
