-- What the command `check` answers.
use Rattle.std.specs.Prelude.{ℕ, List, ◌++◌, length, Ok, Err, codes, decimal}
use Rattle.commands.specs.Trees.{File}
use Rattle.heads.specs.Checked.{Checked}
use Rattle.answers.specs.Texts.{fault_text}
use Rattle.admission.specs.Conditions.{processes}

-- of an admitted file how many classes and processes it has, of any other the first fault
abbrev pub check_answer : Checked File → List ℕ
check_answer (Ok t) = codes "admitted classes " ++ (decimal (length t.classes) ++ (codes " processes " ++ decimal (processes t.behaviour)))
check_answer (Err x) = fault_text x
