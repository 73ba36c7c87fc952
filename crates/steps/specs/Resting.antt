-- A model at rest, by where its processes wait and not by their fronts.
use Rattle.std.specs.Prelude.{◌≡◌, ℕ, ◌⊎◌, List, map, Some}
use Rattle.std.specs.List.{slice_get}
use Rattle.values.specs.declared.kind.Kind.{Kind}
use Rattle.values.specs.Values.{Val, kind_of}
use Rattle.commands.specs.Trees.{Expr, Stmt, skip, assign, send, receive, sequence, select, guard, branch, loop}
use Rattle.processes.specs.Evaluation.{eval}
use Rattle.processes.specs.Waiting.{Place, at_guard, at_command, ProcessWaits}
use Rattle.arrivals.specs.Ways.{ComesOut, way, MeetsAs}
use Rattle.steps.specs.Models.{Process, Model}
use Rattle.steps.specs.Steps.{target_kinds}

-- process number p is this one, and waits at this command
pub record WaitsAt (m : Model) (p : ℕ) (one : Process) (s : Stmt) : Type 0 where
  pub numbered : slice_get m.processes p ≡ Some one
  pub waits : ProcessWaits one.variables one.left (at_command s)

-- the kinds of the values that a send has
abbrev pub value_kinds : List Val → List Expr → List Kind
value_kinds vs es = map (λ e. kind_of (eval e vs)) es

-- a send of process p and a receive of another process q meet: same message and kinds, and both arrive at the lowest PAR above both as one channel
pub record Meet (m : Model) (p : ℕ) (sender : Process) (c message : ℕ) (es : List Expr) (q : ℕ) (receiver : Process) (d message' : ℕ) (ws : List ℕ) : Type 0 where
  pub different : p ≡ q → ⊥
  pub messages : message ≡ message'
  pub kinds : value_kinds sender.variables es ≡ target_kinds receiver.variables ws
  pub arrive : (k : ℕ) × MeetsAs m.behaviour p q c k × MeetsAs m.behaviour q p d k

-- its channel comes out of all commands above its PROC
abbrev pub Outside : Model → ℕ → ℕ → Type 0
Outside m p c = (k : ℕ) × ComesOut (way m.behaviour p) c k

-- something can answer a send or a receive at which process p waits: the outside, or a process that waits at its counterpart
abbrev pub SendAnswerable : Model → ℕ → Process → ℕ → ℕ → List Expr → Type 0
SendAnswerable m p one c message es =
    Outside m p c
    ⊎ ((q : ℕ) × (other : Process) × (d : ℕ) × (n : ℕ) × (ws : List ℕ) × WaitsAt m q other (receive d n ws) × Meet m p one c message es q other d n ws)

abbrev pub ReceiveAnswerable : Model → ℕ → Process → ℕ → ℕ → List ℕ → Type 0
ReceiveAnswerable m q one d message ws =
    Outside m q d
    ⊎ ((p : ℕ) × (other : Process) × (c : ℕ) × (n : ℕ) × (es : List Expr) × WaitsAt m p other (send c n es) × Meet m p other c n es q one d message ws)

-- process p rests at a place: a guard that is not true, or a send or receive that nothing can answer
abbrev pub RestsAt : Model → ℕ → Process → Place → Type 0
RestsAt m p one (at_guard e) = Unit {0}
RestsAt m p one (at_command skip) = ⊥
RestsAt m p one (at_command (assign v e)) = ⊥
RestsAt m p one (at_command (send c message es)) = SendAnswerable m p one c message es → ⊥
RestsAt m p one (at_command (receive d message ws)) = ReceiveAnswerable m p one d message ws → ⊥
RestsAt m p one (at_command (sequence a b)) = ⊥
RestsAt m p one (at_command (select a b)) = ⊥
RestsAt m p one (at_command (guard e a)) = ⊥
RestsAt m p one (at_command (branch e a b)) = ⊥
RestsAt m p one (at_command (loop e a)) = ⊥

-- each process has ended, or rests wherever it waits
abbrev pub AtRest : Model → Type 0
AtRest m = (p : ℕ) (one : Process) (w : Place) → slice_get m.processes p ≡ Some one → ProcessWaits one.variables one.left w → RestsAt m p one w
