-- Where a tree stands are its bytes.
use Rattle.std.proofs.Common.{◌≡◌, ℕ, ◌+◌, ◌-◌, List, [], ◌∷◌, ◌++◌, length, drop, replicate, sym, refl, ap, ◌∙◌, add-zero, arith, length-append}
use Rattle.commands.specs.declared.behaviour.BehaviourCommand.TheVariants.{Proc, Par, Hide, Rename}
use Rattle.commands.specs.declared.expression.ExpressionCommand.TheVariants.{Leaf as LeafC, Binary, Not}
use Rattle.commands.specs.declared.statement.StatementCommand.TheVariants.{Skip, Set, Send, Recv, Seq, Sel, Guard, If, Do}
use Rattle.commands.specs.ByteLists.{Bytes}
use Rattle.commands.specs.Bytes.{expr_bytes, exprs_bytes, stmt_bytes, behaviour_bytes, padded}
use Rattle.commands.specs.Ranges.{InRange, ExprsInRange, StmtInRange}
use Rattle.commands.specs.Stands.{ExprAt, ExprsAt, StmtAt, BehaviourAt}
use Rattle.commands.specs.Trees.{Expr, leaf, binary, negation, Stmt, skip, assign, send, receive, sequence, select, guard, branch, loop, Behaviour, process, parallel, hide, rename, expr_size, exprs_size, stmt_size, behaviour_size}
use Rattle.commands.proofs.Shown.{expression_has, statement_has, behaviour_has}
use Rattle.commands.proofs.Written.{expression_written, statement_written, behaviour_written, Has, joined}

-- a command and one part
with : (f : List ℕ) (at n m : ℕ) (xs ys : List ℕ) → Has f at n xs → Has f (at + n) m ys → Has f at (n + m) (xs ++ ys)
with f at n m xs ys = joined f at n (at + n) m (n + m) xs ys refl refl

-- and two parts
node : (f : List ℕ) (at k n m : ℕ) (c xs ys : List ℕ) → Has f at k c → Has f (at + k) n xs → Has f (at + k + n) m ys → Has f at (k + n + m) (c ++ (xs ++ ys))
node f at k n m c xs ys h g i = joined f at k (at + k) (n + m) (k + n + m) c (xs ++ ys) refl (omega arith) h (with f (at + k) n m xs ys g i)

pub expr_to_bytes : (e : Expr) (f : List ℕ) (at : ℕ) → Bytes f → ExprAt f at e → drop at f ≡ expr_bytes at e ++ drop (at + expr_size e) f
expr_to_bytes (leaf l) f at h s = (expression_has f at h (LeafC l) s).1
expr_to_bytes (binary op a b) f at h s =
    let m = at + 3 + expr_size a in
    node f at 3 (expr_size a) (expr_size b) (expression_written (Binary op m)) (expr_bytes (at + 3) a) (expr_bytes m b) (expression_has f at h (Binary op m) s.0).1 (expr_to_bytes a f (at + 3) h s.1) (expr_to_bytes b f m h s.2)
expr_to_bytes (negation a) f at h s =
    with f at 1 (expr_size a) (expression_written Not) (expr_bytes (at + 1) a) (expression_has f at h Not s.0).1 (expr_to_bytes a f (at + 1) h s.1)

pub exprs_to_bytes : (es : List Expr) (f : List ℕ) (at : ℕ) → Bytes f → ExprsAt f at es → drop at f ≡ exprs_bytes at es ++ drop (at + exprs_size es) f
exprs_to_bytes [] f at h s = ap (λ n. drop n f) (sym (add-zero at))
exprs_to_bytes (e ∷ es) f at h s =
    with f at (expr_size e) (exprs_size es) (expr_bytes at e) (exprs_bytes (at + expr_size e) es) (expr_to_bytes e f at h s.0) (exprs_to_bytes es f (at + expr_size e) h s.1)

pub stmt_to_bytes : (s : Stmt) (f : List ℕ) (at : ℕ) → Bytes f → StmtAt f at s → drop at f ≡ stmt_bytes at s ++ drop (at + stmt_size s) f
stmt_to_bytes skip f at h s = (statement_has f at h Skip s).1
stmt_to_bytes (assign v e) f at h s =
    with f at 2 (expr_size e) (statement_written (Set v)) (expr_bytes (at + 2) e) (statement_has f at h (Set v) s.0).1 (expr_to_bytes e f (at + 2) h s.1)
stmt_to_bytes (send c m es) f at h s =
    let k = Send c m (length es) in
    with f at 4 (exprs_size es) (statement_written k) (exprs_bytes (at + 4) es) (statement_has f at h k s.0).1 (exprs_to_bytes es f (at + 4) h s.1)
stmt_to_bytes (receive c m vs) f at h s = (statement_has f at h (Recv c m (length vs) (padded vs)) s).1
stmt_to_bytes (sequence a b) f at h s =
    let m = at + 3 + stmt_size a in
    node f at 3 (stmt_size a) (stmt_size b) (statement_written (Seq m)) (stmt_bytes (at + 3) a) (stmt_bytes m b) (statement_has f at h (Seq m) s.0).1 (stmt_to_bytes a f (at + 3) h s.1) (stmt_to_bytes b f m h s.2)
stmt_to_bytes (select a b) f at h s =
    let m = at + 3 + stmt_size a in
    node f at 3 (stmt_size a) (stmt_size b) (statement_written (Sel m)) (stmt_bytes (at + 3) a) (stmt_bytes m b) (statement_has f at h (Sel m) s.0).1 (stmt_to_bytes a f (at + 3) h s.1) (stmt_to_bytes b f m h s.2)
stmt_to_bytes (guard e a) f at h s =
    let m = at + 3 + expr_size e in
    node f at 3 (expr_size e) (stmt_size a) (statement_written (Guard m)) (expr_bytes (at + 3) e) (stmt_bytes m a) (statement_has f at h (Guard m) s.0).1 (expr_to_bytes e f (at + 3) h s.1) (stmt_to_bytes a f m h s.2)
stmt_to_bytes (branch e a b) f at h s =
    let m = at + 5 + expr_size e in
    let n = m + stmt_size a in
    let x = stmt_bytes m a in
    let y = stmt_bytes n b in
    let ways : Has f m (stmt_size a + stmt_size b) (x ++ y) = with f m (stmt_size a) (stmt_size b) x y (stmt_to_bytes a f m h s.2) (stmt_to_bytes b f n h s.3) in
    let long : 5 + expr_size e + (stmt_size a + stmt_size b) ≡ 5 + expr_size e + stmt_size a + stmt_size b = omega arith in
    node f at 5 (expr_size e) (stmt_size a + stmt_size b) (statement_written (If m n)) (expr_bytes (at + 5) e) (x ++ y) (statement_has f at h (If m n) s.0).1 (expr_to_bytes e f (at + 5) h s.1) ways
    ∙ ap (λ p. stmt_bytes at (branch e a b) ++ drop (at + p) f) long
stmt_to_bytes (loop e a) f at h s =
    let m = at + 3 + expr_size e in
    node f at 3 (expr_size e) (stmt_size a) (statement_written (Do m)) (expr_bytes (at + 3) e) (stmt_bytes m a) (statement_has f at h (Do m) s.0).1 (expr_to_bytes e f (at + 3) h s.1) (stmt_to_bytes a f m h s.2)

pub behaviour_to_bytes : (b : Behaviour) (f : List ℕ) (at : ℕ) → Bytes f → BehaviourAt f at b → drop at f ≡ behaviour_bytes at b ++ drop (at + behaviour_size b) f
behaviour_to_bytes (process c) f at h s = behaviour_has f at h (Proc c) s
behaviour_to_bytes (parallel a b) f at h s =
    let m = at + 3 + behaviour_size a in
    node f at 3 (behaviour_size a) (behaviour_size b) (behaviour_written (Par m)) (behaviour_bytes (at + 3) a) (behaviour_bytes m b) (behaviour_has f at h (Par m) s.0) (behaviour_to_bytes a f (at + 3) h s.1) (behaviour_to_bytes b f m h s.2)
behaviour_to_bytes (hide x a) f at h s =
    with f at 5 (behaviour_size a) (behaviour_written (Hide x)) (behaviour_bytes (at + 5) a) (behaviour_has f at h (Hide x) s.0) (behaviour_to_bytes a f (at + 5) h s.1)
behaviour_to_bytes (rename x y a) f at h s =
    with f at 3 (behaviour_size a) (behaviour_written (Rename x y)) (behaviour_bytes (at + 3) a) (behaviour_has f at h (Rename x y) s.0) (behaviour_to_bytes a f (at + 3) h s.1)

-- a tree that stands in a file of bytes is in range
pub expr_ranged : (e : Expr) (f : List ℕ) (at : ℕ) → Bytes f → ExprAt f at e → InRange e
expr_ranged (leaf l) f at h s = (expression_has f at h (LeafC l) s).0
expr_ranged (binary op a b) f at h s = (expr_ranged a f (at + 3) h s.1, expr_ranged b f (at + 3 + expr_size a) h s.2)
expr_ranged (negation a) f at h s = expr_ranged a f (at + 1) h s.1

pub exprs_ranged : (es : List Expr) (f : List ℕ) (at : ℕ) → Bytes f → ExprsAt f at es → ExprsInRange es
exprs_ranged [] f at h s = tt
exprs_ranged (e ∷ es) f at h s = (expr_ranged e f at h s.0, exprs_ranged es f (at + expr_size e) h s.1)

pub stmt_ranged : (s : Stmt) (f : List ℕ) (at : ℕ) → Bytes f → StmtAt f at s → StmtInRange s
stmt_ranged skip f at h s = tt
stmt_ranged (assign v e) f at h s = expr_ranged e f (at + 2) h s.1
stmt_ranged (send c m es) f at h s = exprs_ranged es f (at + 4) h s.1
stmt_ranged (receive c m vs) f at h s =
    let p = (statement_has f at h (Recv c m (length vs) (padded vs)) s).0 in
    omega (arith, length-append vs (replicate (4 - length vs) 255))
stmt_ranged (sequence a b) f at h s = (stmt_ranged a f (at + 3) h s.1, stmt_ranged b f (at + 3 + stmt_size a) h s.2)
stmt_ranged (select a b) f at h s = (stmt_ranged a f (at + 3) h s.1, stmt_ranged b f (at + 3 + stmt_size a) h s.2)
stmt_ranged (guard e a) f at h s = (expr_ranged e f (at + 3) h s.1, stmt_ranged a f (at + 3 + expr_size e) h s.2)
stmt_ranged (branch e a b) f at h s =
    (expr_ranged e f (at + 5) h s.1, stmt_ranged a f (at + 5 + expr_size e) h s.2, stmt_ranged b f (at + 5 + expr_size e + stmt_size a) h s.3)
stmt_ranged (loop e a) f at h s = (expr_ranged e f (at + 3) h s.1, stmt_ranged a f (at + 3 + expr_size e) h s.2)
