-- Where a process waits, apart from its fronts.
use Rattle.std.specs.Prelude.{◌≡◌, true, false, ◌⊎◌, List, [], ◌∷◌}
use Rattle.values.specs.Values.{Val}
use Rattle.commands.specs.Trees.{Expr, Stmt, skip, assign, send, receive, sequence, select, guard, branch, loop}
use Rattle.processes.specs.Evaluation.{eval}
use Rattle.processes.specs.Fronts.{is_true, process_fronts}

-- at a guard that is not true, or at a command
pub data Place : Type 0 where
  at_guard : Expr → Place
  at_command : Stmt → Place

abbrev pub Waits : List Val → Stmt → Place → Type 0
Waits vs skip w = w ≡ at_command skip
Waits vs (assign v e) w = w ≡ at_command (assign v e)
Waits vs (send c m es) w = w ≡ at_command (send c m es)
Waits vs (receive c m ws) w = w ≡ at_command (receive c m ws)
Waits vs (sequence a b) w = Waits vs a w
Waits vs (select a b) w = Waits vs a w ⊎ Waits vs b w
Waits vs (guard e a) w = ((is_true (eval e vs) ≡ false) × (w ≡ at_guard e)) ⊎ ((is_true (eval e vs) ≡ true) × Waits vs a w)
Waits vs (branch e a b) w = w ≡ at_command (branch e a b)
Waits vs (loop e a) w = w ≡ at_command (loop e a)

-- a process waits where its first statement does
abbrev pub ProcessWaits : List Val → List Stmt → Place → Type 0
ProcessWaits vs [] w = ⊥
ProcessWaits vs (s ∷ rest) w = Waits vs s w

abbrev pub IsGuard : Place → Type 0
IsGuard (at_guard e) = Unit {0}
IsGuard (at_command s) = ⊥

-- a process has no front exactly when it has ended or waits only at guards that are not true
pub record FrontsAndWaiting : Type 0 where
  pub none : (vs : List Val) (left : List Stmt) → process_fronts vs left ≡ [] → (w : Place) → ProcessWaits vs left w → IsGuard w
  pub only_guards : (vs : List Val) (left : List Stmt) → ((w : Place) → ProcessWaits vs left w → IsGuard w) → process_fronts vs left ≡ []
