-- What is read at a place is the tree that stands there.
use Rattle.std.proofs.Common.{◌≡◌, ℕ, zero, suc, ◌+◌, ◌-◌, ◌<◌, ◌≤◌, List, [], ◌∷◌, length, drop, Some, sym, refl, ap, ◌∙◌, arith}
use Rattle.std.proofs.lemmas.List.{take_at}
use Rattle.commands.specs.declared.behaviour.BehaviourCommand.{BehaviourCommand}
use Rattle.commands.specs.declared.behaviour.BehaviourCommand.TheVariants.{Proc, Par, Hide, Rename}
use Rattle.commands.specs.declared.expression.ExpressionCommand.{ExpressionCommand}
use Rattle.commands.specs.declared.expression.ExpressionCommand.TheVariants.{Leaf as LeafC, Binary, Not}
use Rattle.commands.specs.declared.statement.StatementCommand.{StatementCommand}
use Rattle.commands.specs.declared.statement.StatementCommand.TheVariants.{Skip, Set, Send, Recv, Seq, Sel, Guard, If, Do}
use Rattle.commands.specs.Behaviours.{behaviour_command}
use Rattle.commands.specs.Bytes.{padded}
use Rattle.commands.specs.Depths.{expr_depth, exprs_depth, stmt_depth, behaviour_depth}
use Rattle.commands.specs.Expressions.{expression_command}
use Rattle.commands.specs.Stands.{ExprAt, ExprsAt, StmtAt, BehaviourAt}
use Rattle.commands.specs.Statements.{statement_command}
use Rattle.commands.specs.Trees.{Expr, leaf, binary, negation, Stmt, skip, assign, send, receive, sequence, select, guard, branch, loop, Behaviour, process, parallel, hide, rename, expr_size, stmt_size, behaviour_size}
use Rattle.parts.specs.Parts.{expr_by, stmt_by, behaviour_by, expr_in, exprs_in, stmt_in, behaviour_in}

pub expr_step : (c : ExpressionCommand) (d : ℕ) (f : List ℕ) (at : ℕ) → expression_command (drop at f) ≡ Some c → 0 < d → expr_in d f at ≡ expr_by (λ p. expr_in (d - 1) f p) at (Some c)
unfolding expr_in
expr_step c zero f at e h = absurd (omega arith)
expr_step c (suc d) f at e h = let less : suc d - 1 ≡ d = omega arith in ap (expr_by (λ p. expr_in d f p) at) e ∙ ap (λ k. expr_by (λ p. expr_in k f p) at (Some c)) (sym less)

pub stmt_step : (c : StatementCommand) (d : ℕ) (f : List ℕ) (at : ℕ) → statement_command (drop at f) ≡ Some c → 0 < d → stmt_in d f at ≡ stmt_by (λ p. expr_in (d - 1) f p) (λ n p. exprs_in n (d - 1) f p) (λ p. stmt_in (d - 1) f p) at (Some c)
unfolding stmt_in
stmt_step c zero f at e h = absurd (omega arith)
stmt_step c (suc d) f at e h = let less : suc d - 1 ≡ d = omega arith in ap (stmt_by (λ p. expr_in d f p) (λ n p. exprs_in n d f p) (λ p. stmt_in d f p) at) e ∙ ap (λ k. stmt_by (λ p. expr_in k f p) (λ n p. exprs_in n k f p) (λ p. stmt_in k f p) at (Some c)) (sym less)

pub behaviour_step : (c : BehaviourCommand) (d : ℕ) (f : List ℕ) (at : ℕ) → behaviour_command (drop at f) ≡ Some c → 0 < d → behaviour_in d f at ≡ behaviour_by (λ p. behaviour_in (d - 1) f p) at (Some c)
unfolding behaviour_in
behaviour_step c zero f at e h = absurd (omega arith)
behaviour_step c (suc d) f at e h = let less : suc d - 1 ≡ d = omega arith in ap (behaviour_by (λ p. behaviour_in d f p) at) e ∙ ap (λ k. behaviour_by (λ p. behaviour_in k f p) at (Some c)) (sym less)

pub expr_reads : (t : Expr) (d : ℕ) (f : List ℕ) (at : ℕ) → ExprAt f at t → expr_depth t ≤ d → expr_in d f at ≡ t
expr_reads (leaf l) d f at s n = expr_step (LeafC l) d f at s (omega arith)
expr_reads (binary op a b) d f at s n =
    rw (expr_step (Binary op (at + 3 + expr_size a)) d f at s.0 (omega arith), expr_reads a (d - 1) f (at + 3) s.1 (omega arith), expr_reads b (d - 1) f (at + 3 + expr_size a) s.2 (omega arith))
expr_reads (negation a) d f at s n = rw (expr_step Not d f at s.0 (omega arith), expr_reads a (d - 1) f (at + 1) s.1 (omega arith))

pub exprs_reads : (ts : List Expr) (d : ℕ) (f : List ℕ) (at : ℕ) → ExprsAt f at ts → exprs_depth ts ≤ d → exprs_in (length ts) d f at ≡ ts
exprs_reads [] d f at s n = refl
exprs_reads (t ∷ ts) d f at s n = rw (expr_reads t d f at s.0 (omega arith), exprs_reads ts d f (at + expr_size t) s.1 (omega arith))

pub stmt_reads : (t : Stmt) (d : ℕ) (f : List ℕ) (at : ℕ) → StmtAt f at t → stmt_depth t ≤ d → stmt_in d f at ≡ t
stmt_reads skip d f at s n = stmt_step Skip d f at s (omega arith)
stmt_reads (assign v e) d f at s n = rw (stmt_step (Set v) d f at s.0 (omega arith), expr_reads e (d - 1) f (at + 2) s.1 (omega arith))
stmt_reads (send c m es) d f at s n = rw (stmt_step (Send c m (length es)) d f at s.0 (omega arith), exprs_reads es (d - 1) f (at + 4) s.1 (omega arith))
stmt_reads (receive c m vs) d f at s n = stmt_step (Recv c m (length vs) (padded vs)) d f at s (omega arith) ∙ ap (λ ws. receive c m ws) (take_at vs _ (length vs) refl)
stmt_reads (sequence a b) d f at s n =
    rw (stmt_step (Seq (at + 3 + stmt_size a)) d f at s.0 (omega arith), stmt_reads a (d - 1) f (at + 3) s.1 (omega arith), stmt_reads b (d - 1) f (at + 3 + stmt_size a) s.2 (omega arith))
stmt_reads (select a b) d f at s n =
    rw (stmt_step (Sel (at + 3 + stmt_size a)) d f at s.0 (omega arith), stmt_reads a (d - 1) f (at + 3) s.1 (omega arith), stmt_reads b (d - 1) f (at + 3 + stmt_size a) s.2 (omega arith))
stmt_reads (guard e a) d f at s n =
    rw (stmt_step (Guard (at + 3 + expr_size e)) d f at s.0 (omega arith), expr_reads e (d - 1) f (at + 3) s.1 (omega arith), stmt_reads a (d - 1) f (at + 3 + expr_size e) s.2 (omega arith))
stmt_reads (branch e a b) d f at s n =
    let m = at + 5 + expr_size e in
    rw (stmt_step (If m (m + stmt_size a)) d f at s.0 (omega arith), expr_reads e (d - 1) f (at + 5) s.1 (omega arith), stmt_reads a (d - 1) f m s.2 (omega arith), stmt_reads b (d - 1) f (m + stmt_size a) s.3 (omega arith))
stmt_reads (loop e a) d f at s n =
    rw (stmt_step (Do (at + 3 + expr_size e)) d f at s.0 (omega arith), expr_reads e (d - 1) f (at + 3) s.1 (omega arith), stmt_reads a (d - 1) f (at + 3 + expr_size e) s.2 (omega arith))

pub behaviour_reads : (t : Behaviour) (d : ℕ) (f : List ℕ) (at : ℕ) → BehaviourAt f at t → behaviour_depth t ≤ d → behaviour_in d f at ≡ t
behaviour_reads (process c) d f at s n = behaviour_step (Proc c) d f at s (omega arith)
behaviour_reads (parallel a b) d f at s n =
    rw (behaviour_step (Par (at + 3 + behaviour_size a)) d f at s.0 (omega arith), behaviour_reads a (d - 1) f (at + 3) s.1 (omega arith), behaviour_reads b (d - 1) f (at + 3 + behaviour_size a) s.2 (omega arith))
behaviour_reads (hide x a) d f at s n = rw (behaviour_step (Hide x) d f at s.0 (omega arith), behaviour_reads a (d - 1) f (at + 5) s.1 (omega arith))
behaviour_reads (rename x y a) d f at s n = rw (behaviour_step (Rename x y) d f at s.0 (omega arith), behaviour_reads a (d - 1) f (at + 3) s.1 (omega arith))
