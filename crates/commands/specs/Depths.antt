-- How deep commands nest; the root is at depth 1.
use Rattle.std.specs.Prelude.{ℕ, ◌+◌, max, List, [], ◌∷◌}
use Rattle.commands.specs.Trees.{Expr, leaf, binary, negation, Stmt, skip, assign, send, receive, sequence, select, guard, branch, loop, Behaviour, process, parallel, hide, rename}

abbrev pub expr_depth : Expr → ℕ
expr_depth (leaf l) = 1
expr_depth (binary op a b) = 1 + max (expr_depth a) (expr_depth b)
expr_depth (negation a) = 1 + expr_depth a

abbrev pub exprs_depth : List Expr → ℕ
exprs_depth [] = 0
exprs_depth (e ∷ es) = max (expr_depth e) (exprs_depth es)

abbrev pub stmt_depth : Stmt → ℕ
stmt_depth skip = 1
stmt_depth (assign v e) = 1 + expr_depth e
stmt_depth (send c m es) = 1 + exprs_depth es
stmt_depth (receive c m vs) = 1
stmt_depth (sequence a b) = 1 + max (stmt_depth a) (stmt_depth b)
stmt_depth (select a b) = 1 + max (stmt_depth a) (stmt_depth b)
stmt_depth (guard e a) = 1 + max (expr_depth e) (stmt_depth a)
stmt_depth (branch e a b) = 1 + max (expr_depth e) (max (stmt_depth a) (stmt_depth b))
stmt_depth (loop e a) = 1 + max (expr_depth e) (stmt_depth a)

abbrev pub behaviour_depth : Behaviour → ℕ
behaviour_depth (process c) = 1
behaviour_depth (parallel a b) = 1 + max (behaviour_depth a) (behaviour_depth b)
behaviour_depth (hide s a) = 1 + behaviour_depth a
behaviour_depth (rename x y a) = 1 + behaviour_depth a
