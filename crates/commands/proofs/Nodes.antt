-- Which tree stands where a command does.
use Rattle.std.proofs.Common.{◌≡◌, ℕ, ◌+◌, List, length, drop, Some, refl, subst}
use Rattle.commands.specs.declared.behaviour.BehaviourCommand.{BehaviourCommand}
use Rattle.commands.specs.declared.behaviour.BehaviourCommand.TheVariants.{Proc, Par, Hide, Rename}
use Rattle.commands.specs.declared.expression.ExpressionCommand.{ExpressionCommand}
use Rattle.commands.specs.declared.expression.ExpressionCommand.TheVariants.{Leaf as LeafC, Binary, Not}
use Rattle.commands.specs.declared.statement.StatementCommand.{StatementCommand}
use Rattle.commands.specs.declared.statement.StatementCommand.TheVariants.{Skip, Set, Send, Recv, Seq, Sel, Guard, If, Do}
use Rattle.commands.specs.Behaviours.{behaviour_command}
use Rattle.commands.specs.Bytes.{padded}
use Rattle.commands.specs.Expressions.{expression_command}
use Rattle.commands.specs.Stands.{ExprAt, ExprsAt, StmtAt, BehaviourAt}
use Rattle.commands.specs.Statements.{statement_command}
use Rattle.commands.specs.Trees.{Expr, leaf, binary, negation, Stmt, skip, assign, send, receive, sequence, select, guard, branch, loop, Behaviour, process, parallel, hide, rename, expr_size, stmt_size, behaviour_size}

-- the tree is the command's, and its parts stand where it says
abbrev pub ExprNode : List ℕ → ℕ → ExpressionCommand → Expr → Type 0
ExprNode f at (LeafC l) u = u ≡ leaf l
ExprNode f at (Binary op m) u = (a : Expr) × (b : Expr) × (u ≡ binary op a b) × (m ≡ at + 3 + expr_size a) × ExprAt f (at + 3) a × ExprAt f m b
ExprNode f at Not u = (a : Expr) × (u ≡ negation a) × ExprAt f (at + 1) a

abbrev pub StmtNode : List ℕ → ℕ → StatementCommand → Stmt → Type 0
StmtNode f at Skip u = u ≡ skip
StmtNode f at (Set v) u = (e : Expr) × (u ≡ assign v e) × ExprAt f (at + 2) e
StmtNode f at (Send c m n) u = (es : List Expr) × (u ≡ send c m es) × (n ≡ length es) × ExprsAt f (at + 4) es
StmtNode f at (Recv c m n vs) u = (ws : List ℕ) × (u ≡ receive c m ws) × (n ≡ length ws) × (vs ≡ padded ws)
StmtNode f at (Seq m) u = (a : Stmt) × (b : Stmt) × (u ≡ sequence a b) × (m ≡ at + 3 + stmt_size a) × StmtAt f (at + 3) a × StmtAt f m b
StmtNode f at (Sel m) u = (a : Stmt) × (b : Stmt) × (u ≡ select a b) × (m ≡ at + 3 + stmt_size a) × StmtAt f (at + 3) a × StmtAt f m b
StmtNode f at (Guard m) u = (e : Expr) × (a : Stmt) × (u ≡ guard e a) × (m ≡ at + 3 + expr_size e) × ExprAt f (at + 3) e × StmtAt f m a
StmtNode f at (If m n) u =
    (e : Expr) × (a : Stmt) × (b : Stmt) × (u ≡ branch e a b) × (m ≡ at + 5 + expr_size e) × (n ≡ m + stmt_size a) × ExprAt f (at + 5) e × StmtAt f m a × StmtAt f n b
StmtNode f at (Do m) u = (e : Expr) × (a : Stmt) × (u ≡ loop e a) × (m ≡ at + 3 + expr_size e) × ExprAt f (at + 3) e × StmtAt f m a

abbrev pub BehaviourNode : List ℕ → ℕ → BehaviourCommand → Behaviour → Type 0
BehaviourNode f at (Proc c) u = u ≡ process c
BehaviourNode f at (Par m) u = (a : Behaviour) × (b : Behaviour) × (u ≡ parallel a b) × (m ≡ at + 3 + behaviour_size a) × BehaviourAt f (at + 3) a × BehaviourAt f m b
BehaviourNode f at (Hide s) u = (a : Behaviour) × (u ≡ hide s a) × BehaviourAt f (at + 5) a
BehaviourNode f at (Rename x y) u = (a : Behaviour) × (u ≡ rename x y a) × BehaviourAt f (at + 3) a

module _ (f : List ℕ) (at : ℕ) where
  expr_as : (u : Expr) {c d : ExpressionCommand} → expression_command (drop at f) ≡ Some c → expression_command (drop at f) ≡ Some d → ExprNode f at d u → ExprNode f at c u
  expr_as u {c} {d} e i n = let p : d ≡ c = cc in subst (λ x. ExprNode f at x u) p n

  pub expr_node : (c : ExpressionCommand) (u : Expr) → expression_command (drop at f) ≡ Some c → ExprAt f at u → ExprNode f at c u
  expr_node c (leaf l) e s = expr_as (leaf l) e s refl
  expr_node c (binary op a b) e s = expr_as (binary op a b) e s.0 (a, b, refl, refl, s.1, s.2)
  expr_node c (negation a) e s = expr_as (negation a) e s.0 (a, refl, s.1)

  stmt_as : (u : Stmt) {c d : StatementCommand} → statement_command (drop at f) ≡ Some c → statement_command (drop at f) ≡ Some d → StmtNode f at d u → StmtNode f at c u
  stmt_as u {c} {d} e i n = let p : d ≡ c = cc in subst (λ x. StmtNode f at x u) p n

  pub stmt_node : (c : StatementCommand) (u : Stmt) → statement_command (drop at f) ≡ Some c → StmtAt f at u → StmtNode f at c u
  stmt_node c skip e s = stmt_as skip e s refl
  stmt_node c (assign v x) e s = stmt_as (assign v x) e s.0 (x, refl, s.1)
  stmt_node c (send k m es) e s = stmt_as (send k m es) e s.0 (es, refl, refl, s.1)
  stmt_node c (receive k m vs) e s = stmt_as (receive k m vs) e s (vs, refl, refl, refl)
  stmt_node c (sequence a b) e s = stmt_as (sequence a b) e s.0 (a, b, refl, refl, s.1, s.2)
  stmt_node c (select a b) e s = stmt_as (select a b) e s.0 (a, b, refl, refl, s.1, s.2)
  stmt_node c (guard x a) e s = stmt_as (guard x a) e s.0 (x, a, refl, refl, s.1, s.2)
  stmt_node c (branch x a b) e s = stmt_as (branch x a b) e s.0 (x, a, b, refl, refl, refl, s.1, s.2, s.3)
  stmt_node c (loop x a) e s = stmt_as (loop x a) e s.0 (x, a, refl, refl, s.1, s.2)

  behaviour_as : (u : Behaviour) {c d : BehaviourCommand} → behaviour_command (drop at f) ≡ Some c → behaviour_command (drop at f) ≡ Some d → BehaviourNode f at d u → BehaviourNode f at c u
  behaviour_as u {c} {d} e i n = let p : d ≡ c = cc in subst (λ x. BehaviourNode f at x u) p n

  pub behaviour_node : (c : BehaviourCommand) (u : Behaviour) → behaviour_command (drop at f) ≡ Some c → BehaviourAt f at u → BehaviourNode f at c u
  behaviour_node c (process k) e s = behaviour_as (process k) e s refl
  behaviour_node c (parallel a b) e s = behaviour_as (parallel a b) e s.0 (a, b, refl, refl, s.1, s.2)
  behaviour_node c (hide x a) e s = behaviour_as (hide x a) e s.0 (a, refl, s.1)
  behaviour_node c (rename x y a) e s = behaviour_as (rename x y a) e s.0 (a, refl, s.1)
