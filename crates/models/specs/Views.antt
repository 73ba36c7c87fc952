-- The model that the memory stands for.
use Rattle.std.specs.Prelude.{ℕ, List, [], take, Ok, Err, Result}
use Rattle.commands.specs.Trees.{process}
use Rattle.answers.specs.declared.fault.LoadFault.{LoadFault}
use Rattle.heads.specs.Checked.{Checked, ◌>>=◌}
use Rattle.files.specs.Files.{levels}
use Rattle.parts.specs.Parts.{behaviour_in}
use Rattle.admission.specs.Read.{classes_in, read}
use Rattle.steps.specs.Models as steps
use Rattle.tables.specs.Views.{processes_in}
use Rattle.models.specs.declared.model.Model.{Model}

-- the bytes of its file
abbrev pub bytes_of : Model → List ℕ
bytes_of m = take m.length m.file

abbrev pub model_of : Model → steps.Model
model_of m =
    record {
      classes = classes_in m.classes (bytes_of m) 4;
      behaviour = behaviour_in levels (bytes_of m) m.behaviour;
      processes = processes_in (bytes_of m) m.table m.count;
    }

-- a model that no file was loaded into
abbrev pub no_processes : steps.Model
no_processes = record { classes = []; behaviour = process 0; processes = [] }

-- a model made, by what it stands for
abbrev pub started : Result Model LoadFault → Checked steps.Model
started (Ok m) = Ok (model_of m)
started (Err x) = Err x

-- the model that the bytes of a file start as, or their first fault
abbrev pub start_of : List ℕ → Checked steps.Model
start_of f = read f >>= (λ t. Ok (steps.start t))
