-- Laws of steps.
use Rattle.std.specs.Prelude.{◌≡◌, ℕ, ◌<◌, ◌≤◌, true, false, List, [], map, filter, take, length, Some, None}
use Rattle.std.specs.List.{slice_get}
use Rattle.values.specs.declared.kind.Kind.{Kind}
use Rattle.values.specs.Values.{Val, kind_of}
use Rattle.commands.specs.Trees.{File}
use Rattle.admission.specs.Conditions.{processes, Conditions}
use Rattle.records.specs.declared.step.Step.{Step}
use Rattle.records.specs.Steps.{has, closed}
use Rattle.steps.specs.Models.{Process, Model, process_classes, start}
use Rattle.steps.specs.Steps.{steps}
use Rattle.steps.specs.Taking.{process_numbered, exchanged, after_step, is_in, refusal}
use Rattle.steps.specs.Kept.{ProcessPerProc, ModelKept}
use Rattle.steps.specs.Declaring.{KeepsDeclarations}
use Rattle.steps.specs.Resting.{AtRest}

-- the processes of a model are those of its behaviour
pub record ProcLaws : Type 0 where
  -- as the file starts, and after any step
  pub start_per_proc : (t : File) → ProcessPerProc (start t)
  pub step_per_proc : (m : Model) (s : Step) (given : List Val) → ProcessPerProc m → ProcessPerProc (after_step m s given)
  -- there are as many as PROCs, and process p has the class of PROC p
  pub as_many : (m : Model) → ProcessPerProc m → length m.processes ≡ processes m.behaviour
  pub of_class : (m : Model) (p : ℕ) (one : Process) → ProcessPerProc m → slice_get m.processes p ≡ Some one → slice_get (process_classes m.behaviour) p ≡ Some one.class

-- how many steps there are, and which
pub record ListingLaws : Type 0 where
  pub bounded : (m : Model) → ModelKept m → length (steps m) ≤ 1088
  pub none_twice : (m : Model) (i j : ℕ) (s : Step) → slice_get (steps m) i ≡ Some s → slice_get (steps m) j ≡ Some s → i ≡ j
  pub is_in_list : (m : Model) (s : Step) → is_in s (steps m) ≡ true → (i : ℕ) × (slice_get (steps m) i ≡ Some s)
  pub in_list_is : (m : Model) (s : Step) (i : ℕ) → slice_get (steps m) i ≡ Some s → is_in s (steps m) ≡ true
  -- those in which processes of the model alone take part stand first
  pub closed_first : (m : Model) → take (length (filter closed (steps m))) (steps m) ≡ filter closed (steps m)
  -- a process in a step is one of the model
  pub processes_exist : (m : Model) (s : Step) (p : ℕ) → is_in s (steps m) ≡ true → has p s ≡ true → p < length m.processes

-- what a step leaves
pub record TakingLaws : Type 0 where
  -- a process that is not in it stays as it was, each keeps its class, and classes and behaviour stay
  pub others_stay : (m : Model) (s : Step) (given : List Val) (p : ℕ) → has p s ≡ false → process_numbered (after_step m s given) p ≡ process_numbered m p
  pub its_class_stays : (m : Model) (s : Step) (given : List Val) (p : ℕ) → (process_numbered (after_step m s given) p).class ≡ (process_numbered m p).class
  pub classes_stay : (m : Model) (s : Step) (given : List Val) → (after_step m s given).classes ≡ m.classes
  pub behaviour_stays : (m : Model) (s : Step) (given : List Val) → (after_step m s given).behaviour ≡ m.behaviour
  -- a model that an admitted file starts as is kept, and after every step that is not refused
  pub start_kept : (t : File) → Conditions t → ModelKept (start t)
  pub step_kept : (m : Model) (s : Step) (given : List Val) → ModelKept m → refusal m s given ≡ None → ModelKept (after_step m s given)

-- a listed exchange, and one that is taken, is declared
pub record DeclaredLaws : Type 0 where
  pub listed_declared : (m : Model) (s : Step) → ModelKept m → is_in s (steps m) ≡ true → (ks : List Kind) × KeepsDeclarations m s ks
  pub taken_declared : (m : Model) (s : Step) (given : List Val) → ModelKept m → refusal m s given ≡ None → KeepsDeclarations m s (map kind_of (exchanged m s given))

-- there is no step exactly when the model is at rest
pub record RestLaws : Type 0 where
  pub none_rests : (m : Model) → steps m ≡ [] → AtRest m
  pub rest_none : (m : Model) → ModelKept m → AtRest m → steps m ≡ []

pub record StepLaws : Type 0 where
  pub procs : ProcLaws
  pub listing : ListingLaws
  pub taking : TakingLaws
  pub declared : DeclaredLaws
  pub resting : RestLaws
