-- What the check of a file hands on.
use Rattle.std.specs.Prelude.{Ok, Err, Result}
use Rattle.answers.specs.declared.fault.LoadFault.{LoadFault}
use Rattle.files.specs.declared.file.Summary.{Summary}
use Rattle.heads.specs.Checked.{Checked}
use Rattle.files.specs.Files as files

abbrev pub summed : Result Summary LoadFault → Checked files.Summary
summed (Ok s) = Ok (s.classes, s.behaviour, s.processes)
summed (Err x) = Err x
