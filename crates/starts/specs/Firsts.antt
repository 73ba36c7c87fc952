-- The steps of a file at its start.
use Rattle.std.specs.Prelude.{List, [], Ok, Err}
use Rattle.commands.specs.Trees.{File}
use Rattle.heads.specs.Checked.{Checked}
use Rattle.records.specs.declared.step.Step.{Step}
use Rattle.steps.specs.Models.{start}
use Rattle.steps.specs.Steps.{steps}

-- every step of the model that an admitted file starts as; a refused file has none
abbrev pub first_steps : Checked File → List Step
first_steps (Ok t) = steps (start t)
first_steps (Err x) = []
