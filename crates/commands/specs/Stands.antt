-- Which tree stands at a place of a file, by the commands there.
use Rattle.std.specs.Prelude.{◌≡◌, ℕ, ◌+◌, List, [], ◌∷◌, length, drop, Some}
use Rattle.commands.specs.declared.behaviour.BehaviourCommand.TheVariants.{Proc, Par, Hide, Rename}
use Rattle.commands.specs.declared.expression.ExpressionCommand.TheVariants.{Leaf as LeafC, Binary, Not}
use Rattle.commands.specs.declared.statement.StatementCommand.TheVariants.{Skip, Set, Send, Recv, Seq, Sel, Guard, If, Do}
use Rattle.commands.specs.Behaviours.{behaviour_command}
use Rattle.commands.specs.Bytes.{padded}
use Rattle.commands.specs.Expressions.{expression_command}
use Rattle.commands.specs.Statements.{statement_command}
use Rattle.commands.specs.Trees.{Expr, leaf, binary, negation, Stmt, skip, assign, send, receive, sequence, select, guard, branch, loop, Behaviour, process, parallel, hide, rename, expr_size, stmt_size, behaviour_size}

abbrev pub ExprAt : List ℕ → ℕ → Expr → Type 0
ExprAt f at (leaf l) = expression_command (drop at f) ≡ Some (LeafC l)
ExprAt f at (binary op a b) = (expression_command (drop at f) ≡ Some (Binary op (at + 3 + expr_size a))) × ExprAt f (at + 3) a × ExprAt f (at + 3 + expr_size a) b
ExprAt f at (negation a) = (expression_command (drop at f) ≡ Some Not) × ExprAt f (at + 1) a

abbrev pub ExprsAt : List ℕ → ℕ → List Expr → Type 0
ExprsAt f at [] = Unit {0}
ExprsAt f at (e ∷ es) = ExprAt f at e × ExprsAt f (at + expr_size e) es

abbrev pub StmtAt : List ℕ → ℕ → Stmt → Type 0
StmtAt f at skip = statement_command (drop at f) ≡ Some Skip
StmtAt f at (assign v e) = (statement_command (drop at f) ≡ Some (Set v)) × ExprAt f (at + 2) e
StmtAt f at (send c m es) = (statement_command (drop at f) ≡ Some (Send c m (length es))) × ExprsAt f (at + 4) es
StmtAt f at (receive c m vs) = statement_command (drop at f) ≡ Some (Recv c m (length vs) (padded vs))
StmtAt f at (sequence a b) = (statement_command (drop at f) ≡ Some (Seq (at + 3 + stmt_size a))) × StmtAt f (at + 3) a × StmtAt f (at + 3 + stmt_size a) b
StmtAt f at (select a b) = (statement_command (drop at f) ≡ Some (Sel (at + 3 + stmt_size a))) × StmtAt f (at + 3) a × StmtAt f (at + 3 + stmt_size a) b
StmtAt f at (guard e a) = (statement_command (drop at f) ≡ Some (Guard (at + 3 + expr_size e))) × ExprAt f (at + 3) e × StmtAt f (at + 3 + expr_size e) a
StmtAt f at (branch e a b) =
    (statement_command (drop at f) ≡ Some (If (at + 5 + expr_size e) (at + 5 + expr_size e + stmt_size a)))
    × ExprAt f (at + 5) e × StmtAt f (at + 5 + expr_size e) a × StmtAt f (at + 5 + expr_size e + stmt_size a) b
StmtAt f at (loop e a) = (statement_command (drop at f) ≡ Some (Do (at + 3 + expr_size e))) × ExprAt f (at + 3) e × StmtAt f (at + 3 + expr_size e) a

abbrev pub BehaviourAt : List ℕ → ℕ → Behaviour → Type 0
BehaviourAt f at (process c) = behaviour_command (drop at f) ≡ Some (Proc c)
BehaviourAt f at (parallel a b) = (behaviour_command (drop at f) ≡ Some (Par (at + 3 + behaviour_size a))) × BehaviourAt f (at + 3) a × BehaviourAt f (at + 3 + behaviour_size a) b
BehaviourAt f at (hide s a) = (behaviour_command (drop at f) ≡ Some (Hide s)) × BehaviourAt f (at + 5) a
BehaviourAt f at (rename x y a) = (behaviour_command (drop at f) ≡ Some (Rename x y)) × BehaviourAt f (at + 3) a
