-- The tree at a place of a file, from the commands there. A tree nests at most as deep as the fuel says.
use Rattle.std.specs.Prelude.{ℕ, zero, suc, ◌+◌, List, [], ◌∷◌, take, drop, Some, None, Option}
use Rattle.commands.specs.declared.behaviour.BehaviourCommand.{BehaviourCommand}
use Rattle.commands.specs.declared.behaviour.BehaviourCommand.TheVariants.{Proc, Par, Hide, Rename}
use Rattle.commands.specs.declared.expression.ExpressionCommand.{ExpressionCommand}
use Rattle.commands.specs.declared.expression.ExpressionCommand.TheVariants.{Leaf as LeafC, Binary, Not}
use Rattle.commands.specs.declared.expression.Leaf.TheVariants.{Iunk}
use Rattle.commands.specs.declared.statement.StatementCommand.{StatementCommand}
use Rattle.commands.specs.declared.statement.StatementCommand.TheVariants.{Skip, Set, Send, Recv, Seq, Sel, Guard, If, Do}
use Rattle.commands.specs.Behaviours.{behaviour_command}
use Rattle.commands.specs.Expressions.{expression_command}
use Rattle.commands.specs.Statements.{statement_command}
use Rattle.commands.specs.Trees.{Expr, leaf, binary, negation, Stmt, skip, assign, send, receive, sequence, select, guard, branch, loop, Behaviour, process, parallel, hide, rename, expr_size}

-- the tree of a command at a place, with the tree at each other place
abbrev pub expr_by : (ℕ → Expr) → ℕ → Option ExpressionCommand → Expr
expr_by part at None = leaf Iunk
expr_by part at (Some (LeafC l)) = leaf l
expr_by part at (Some (Binary op p)) = binary op (part (at + 3)) (part p)
expr_by part at (Some Not) = negation (part (at + 1))

abbrev pub stmt_by : (ℕ → Expr) → (ℕ → ℕ → List Expr) → (ℕ → Stmt) → ℕ → Option StatementCommand → Stmt
stmt_by value values part at None = skip
stmt_by value values part at (Some Skip) = skip
stmt_by value values part at (Some (Set v)) = assign v (value (at + 2))
stmt_by value values part at (Some (Send c m n)) = send c m (values n (at + 4))
stmt_by value values part at (Some (Recv c m n vs)) = receive c m (take n vs)
stmt_by value values part at (Some (Seq p)) = sequence (part (at + 3)) (part p)
stmt_by value values part at (Some (Sel p)) = select (part (at + 3)) (part p)
stmt_by value values part at (Some (Guard p)) = guard (value (at + 3)) (part p)
stmt_by value values part at (Some (If p q)) = branch (value (at + 5)) (part p) (part q)
stmt_by value values part at (Some (Do p)) = loop (value (at + 3)) (part p)

abbrev pub behaviour_by : (ℕ → Behaviour) → ℕ → Option BehaviourCommand → Behaviour
behaviour_by part at None = process 0
behaviour_by part at (Some (Proc c)) = process c
behaviour_by part at (Some (Par p)) = parallel (part (at + 3)) (part p)
behaviour_by part at (Some (Hide s)) = hide s (part (at + 5))
behaviour_by part at (Some (Rename x y)) = rename x y (part (at + 3))

unfoldable pub expr_in : ℕ → List ℕ → ℕ → Expr
expr_in zero f at = leaf Iunk
expr_in (suc d) f at = expr_by (λ p. expr_in d f p) at (expression_command (drop at f))

-- so many expressions, each next one where the one before ends
abbrev pub exprs_in : ℕ → ℕ → List ℕ → ℕ → List Expr
exprs_in zero d f at = []
exprs_in (suc n) d f at = expr_in d f at ∷ exprs_in n d f (at + expr_size (expr_in d f at))

unfoldable pub stmt_in : ℕ → List ℕ → ℕ → Stmt
stmt_in zero f at = skip
stmt_in (suc d) f at = stmt_by (λ p. expr_in d f p) (λ n p. exprs_in n d f p) (λ p. stmt_in d f p) at (statement_command (drop at f))

unfoldable pub behaviour_in : ℕ → List ℕ → ℕ → Behaviour
behaviour_in zero f at = process 0
behaviour_in (suc d) f at = behaviour_by (λ p. behaviour_in d f p) at (behaviour_command (drop at f))
