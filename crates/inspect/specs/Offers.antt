-- The fronts of a fresh process.
use Rattle.std.specs.Prelude.{List, [], ◌∷◌}
use Rattle.commands.specs.Trees.{Class}
use Rattle.processes.specs.Fronts.{Front, process_fronts}

-- what a process of a class can do first
abbrev pub first_fronts : Class → List Front
first_fronts c = process_fronts c.variables (c.statement ∷ [])
