-- Models: processes of classes under a behaviour.
use Rattle.std.specs.Prelude.{ℕ, List, [], ◌∷◌, ◌++◌, map, slice_index_or}
use Rattle.values.specs.Values.{Val}
use Rattle.commands.specs.Trees.{Stmt, skip, Behaviour, process, parallel, hide, rename, Class, File}

-- a process: the number of its class, what remains of it, and its variables
pub record Process : Type 0 where
  pub class : ℕ
  pub left : List Stmt
  pub variables : List Val

-- the processes stand in the order of their numbers
pub record Model : Type 0 where
  pub classes : List Class
  pub behaviour : Behaviour
  pub processes : List Process

-- the classes of a behaviour's processes, in file order
abbrev pub process_classes : Behaviour → List ℕ
process_classes (process k) = k ∷ []
process_classes (parallel a b) = process_classes a ++ process_classes b
process_classes (hide s a) = process_classes a
process_classes (rename x y a) = process_classes a

-- what a class number stands for that no class has
abbrev pub no_class : Class
no_class = record { variables = []; declarations = []; statement = skip }

abbrev pub class_numbered : List Class → ℕ → Class
class_numbered cs k = slice_index_or cs k no_class

-- a process before its first step
abbrev pub fresh : List Class → ℕ → Process
fresh cs k = record { class = k; left = (class_numbered cs k).statement ∷ []; variables = (class_numbered cs k).variables }

-- the model that a file starts as
abbrev pub start : File → Model
start t = record { classes = t.classes; behaviour = t.behaviour; processes = map (fresh t.classes) (process_classes t.behaviour) }
