-- What a model keeps, whatever steps are taken.
use Rattle.std.specs.Prelude.{◌≡◌, ◌<◌, ◌≤◌, List, map, length}
use Rattle.std.specs.List.{AllByRecursion}
use Rattle.commands.specs.Trees.{Class}
use Rattle.admission.specs.Conditions.{ClassKept}
use Rattle.processes.specs.Classes.{ProcessOf}
use Rattle.steps.specs.Models.{Process, Model, class_numbered, process_classes}

-- a process has the kinds of its class's variables, and what remains of it are statements of its class
pub record ProcessKept (cs : List Class) (one : Process) : Type 0 where
  pub of_class : one.class < length cs
  pub process : ProcessOf (class_numbered cs one.class) one.variables one.left

-- for each PROC of the behaviour, in file order, there is a process of the PROC's class
abbrev pub ProcessPerProc : Model → Type 0
ProcessPerProc m = map (λ one. one.class) m.processes ≡ process_classes m.behaviour

pub record ModelKept (m : Model) : Type 0 where
  pub classes_kept : AllByRecursion ClassKept m.classes
  pub processes_kept : AllByRecursion (ProcessKept m.classes) m.processes
  pub few : length m.processes ≤ 8
  -- a model into which no file was loaded has no process
  pub per_proc : 0 < length m.processes → ProcessPerProc m
