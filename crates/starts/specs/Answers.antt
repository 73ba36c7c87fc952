-- What the command `steps` answers.
use Rattle.std.specs.Prelude.{ℕ, List, Ok, Err}
use Rattle.answers.specs.Texts.{fault_text}
use Rattle.commands.specs.Trees.{File}
use Rattle.heads.specs.Checked.{Checked}
use Rattle.records.specs.Texts.{listing_text}
use Rattle.steps.specs.Models.{start}
use Rattle.steps.specs.Steps.{steps}

-- for an admitted file the steps of the model that it starts as, for any other the first fault
abbrev pub steps_answer : Checked File → List ℕ
steps_answer (Ok t) = listing_text (steps (start t))
steps_answer (Err x) = fault_text x
