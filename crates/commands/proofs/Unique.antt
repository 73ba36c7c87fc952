-- No place has two trees.
use Rattle.std.proofs.Common.{◌≡◌, ℕ, ◌+◌, ◌-◌, List, [], ◌∷◌, length, take, replicate, sym, refl, ap, ◌∙◌, subst, arith}
use Rattle.std.proofs.lemmas.List.{take_at}
use Rattle.commands.specs.declared.behaviour.BehaviourCommand.TheVariants.{Proc, Par, Hide, Rename}
use Rattle.commands.specs.declared.expression.ExpressionCommand.TheVariants.{Leaf as LeafC, Binary, Not}
use Rattle.commands.specs.declared.statement.StatementCommand.TheVariants.{Skip, Set, Send, Recv, Seq, Sel, Guard, If, Do}
use Rattle.commands.specs.Bytes.{padded}
use Rattle.commands.specs.Stands.{ExprAt, ExprsAt, StmtAt, BehaviourAt}
use Rattle.commands.specs.Trees.{Expr, leaf, binary, negation, Stmt, skip, assign, send, receive, sequence, select, guard, branch, loop, Behaviour, process, parallel, hide, rename, expr_size, stmt_size, behaviour_size}
use Rattle.commands.proofs.Nodes.{expr_node, stmt_node, behaviour_node}

pub expr_one : (e u : Expr) (f : List ℕ) (at : ℕ) → ExprAt f at e → ExprAt f at u → e ≡ u
expr_one (leaf l) u f at s v = sym (expr_node f at (LeafC l) u s v)
expr_one (binary op a b) u f at s v =
    let p = expr_node f at (Binary op (at + 3 + expr_size a)) u s.0 v in
    let first = expr_one a p.0 f (at + 3) s.1 p.4 in
    let second = expr_one b p.1 f (at + 3 + expr_size a) s.2 p.5 in
    cc p.2
expr_one (negation a) u f at s v =
    let p = expr_node f at Not u s.0 v in
    let only = expr_one a p.0 f (at + 1) s.1 p.2 in
    cc p.1

pub exprs_one : (es us : List Expr) (f : List ℕ) (at : ℕ) → length es ≡ length us → ExprsAt f at es → ExprsAt f at us → es ≡ us
exprs_one [] [] f at n s v = refl
exprs_one [] (u ∷ us) f at n s v = absurd (omega arith)
exprs_one (e ∷ es) [] f at n s v = absurd (omega arith)
exprs_one (e ∷ es) (u ∷ us) f at n s v =
    let first = expr_one e u f at s.0 v.0 in
    let rest = exprs_one es us f (at + expr_size e) (omega arith) s.1 (subst (λ x. ExprsAt f (at + expr_size x) us) (sym first) v.1) in
    cc

pub padded_one : (vs ws : List ℕ) → length vs ≡ length ws → padded vs ≡ padded ws → vs ≡ ws
padded_one vs ws n e =
    sym (take_at vs (replicate (4 - length vs) 255) (length vs) refl) ∙ ap (take (length vs)) e ∙ take_at ws (replicate (4 - length ws) 255) (length vs) (sym n)

pub stmt_one : (s u : Stmt) (f : List ℕ) (at : ℕ) → StmtAt f at s → StmtAt f at u → s ≡ u
stmt_one skip u f at s v = sym (stmt_node f at Skip u s v)
stmt_one (assign k e) u f at s v =
    let p = stmt_node f at (Set k) u s.0 v in
    let only = expr_one e p.0 f (at + 2) s.1 p.2 in
    cc p.1
stmt_one (send c m es) u f at s v =
    let p = stmt_node f at (Send c m (length es)) u s.0 v in
    let all = exprs_one es p.0 f (at + 4) p.2 s.1 p.3 in
    cc p.1
stmt_one (receive c m vs) u f at s v =
    let p = stmt_node f at (Recv c m (length vs) (padded vs)) u s v in
    let all = padded_one vs p.0 p.2 p.3 in
    cc p.1
stmt_one (sequence a b) u f at s v =
    let m = at + 3 + stmt_size a in
    let p = stmt_node f at (Seq m) u s.0 v in
    let first = stmt_one a p.0 f (at + 3) s.1 p.4 in
    let second = stmt_one b p.1 f m s.2 p.5 in
    cc p.2
stmt_one (select a b) u f at s v =
    let m = at + 3 + stmt_size a in
    let p = stmt_node f at (Sel m) u s.0 v in
    let first = stmt_one a p.0 f (at + 3) s.1 p.4 in
    let second = stmt_one b p.1 f m s.2 p.5 in
    cc p.2
stmt_one (guard e a) u f at s v =
    let m = at + 3 + expr_size e in
    let p = stmt_node f at (Guard m) u s.0 v in
    let first = expr_one e p.0 f (at + 3) s.1 p.4 in
    let second = stmt_one a p.1 f m s.2 p.5 in
    cc p.2
stmt_one (branch e a b) u f at s v =
    let m = at + 5 + expr_size e in
    let n = m + stmt_size a in
    let p = stmt_node f at (If m n) u s.0 v in
    let first = expr_one e p.0 f (at + 5) s.1 p.6 in
    let second = stmt_one a p.1 f m s.2 p.7 in
    let third = stmt_one b p.2 f n s.3 p.8 in
    cc p.3
stmt_one (loop e a) u f at s v =
    let m = at + 3 + expr_size e in
    let p = stmt_node f at (Do m) u s.0 v in
    let first = expr_one e p.0 f (at + 3) s.1 p.4 in
    let second = stmt_one a p.1 f m s.2 p.5 in
    cc p.2

pub behaviour_one : (b u : Behaviour) (f : List ℕ) (at : ℕ) → BehaviourAt f at b → BehaviourAt f at u → b ≡ u
behaviour_one (process c) u f at s v = sym (behaviour_node f at (Proc c) u s v)
behaviour_one (parallel a b) u f at s v =
    let m = at + 3 + behaviour_size a in
    let p = behaviour_node f at (Par m) u s.0 v in
    let first = behaviour_one a p.0 f (at + 3) s.1 p.4 in
    let second = behaviour_one b p.1 f m s.2 p.5 in
    cc p.2
behaviour_one (hide x a) u f at s v =
    let p = behaviour_node f at (Hide x) u s.0 v in
    let only = behaviour_one a p.0 f (at + 5) s.1 p.2 in
    cc p.1
behaviour_one (rename x y a) u f at s v =
    let p = behaviour_node f at (Rename x y) u s.0 v in
    let only = behaviour_one a p.0 f (at + 3) s.1 p.2 in
    cc p.1
