-- What begins with the bytes of a tree is that tree.
use Rattle.std.proofs.Common.{◌≡◌, ℕ, ◌+◌, ◌-◌, ◌≤◌, List, [], ◌∷◌, ◌++◌, length, drop, replicate, refl, ◌∙◌, append_assoc, arith, length-append}
use lib.ListN.{length-replicate}
use Rattle.commands.specs.declared.behaviour.BehaviourCommand.TheVariants.{Proc, Par, Hide, Rename}
use Rattle.commands.specs.declared.expression.ExpressionCommand.TheVariants.{Leaf as LeafC, Binary, Not}
use Rattle.commands.specs.declared.statement.StatementCommand.TheVariants.{Skip, Set, Send, Recv, Seq, Sel, Guard, If, Do}
use Rattle.commands.specs.Bytes.{expr_bytes, exprs_bytes, stmt_bytes, behaviour_bytes, padded}
use Rattle.commands.specs.Ranges.{InRange, ExprsInRange, StmtInRange}
use Rattle.commands.specs.Stands.{ExprAt, ExprsAt, StmtAt, BehaviourAt}
use Rattle.commands.specs.Trees.{Expr, leaf, binary, negation, Stmt, skip, assign, send, receive, sequence, select, guard, branch, loop, Behaviour, process, parallel, hide, rename, expr_size, exprs_size, stmt_size, behaviour_size}
use Rattle.commands.proofs.Written.{expression_written, statement_written, behaviour_written, expression_read, statement_read, behaviour_read, leaf_long, behind}

-- a command and what follows it; two parts
parts : (f : List ℕ) (at k n : ℕ) (c xs ys rest : List ℕ) → drop at f ≡ (c ++ (xs ++ ys)) ++ rest → length c ≡ k → length xs ≡ n → (drop (at + k) f ≡ xs ++ (ys ++ rest)) × (drop (at + k + n) f ≡ ys ++ rest)
parts f at k n c xs ys rest e p q =
    let d : drop (at + k) f ≡ xs ++ (ys ++ rest) = behind f at k c ((xs ++ ys) ++ rest) (e ∙ append_assoc c (xs ++ ys) rest) p ∙ append_assoc xs ys rest in
    (d, behind f (at + k) n xs (ys ++ rest) d q)

pub expr_bytes_size : (at : ℕ) (e : Expr) → length (expr_bytes at e) ≡ expr_size e
expr_bytes_size at (leaf l) = leaf_long l
expr_bytes_size at (binary op a b) =
    let p = expr_bytes_size (at + 3) a in let q = expr_bytes_size (at + 3 + expr_size a) b in
    omega (arith, length-append (expr_bytes (at + 3) a) (expr_bytes (at + 3 + expr_size a) b))
expr_bytes_size at (negation a) = omega (arith, expr_bytes_size (at + 1) a)

pub expr_from_bytes : (e : Expr) (f : List ℕ) (at : ℕ) (rest : List ℕ) → InRange e → drop at f ≡ expr_bytes at e ++ rest → ExprAt f at e
expr_from_bytes (leaf l) f at rest h e = expression_read (LeafC l) rest h e
expr_from_bytes (binary op a b) f at rest h e =
    let m = at + 3 + expr_size a in
    let c = expression_written (Binary op m) in
    let p = parts f at 3 (expr_size a) c (expr_bytes (at + 3) a) (expr_bytes m b) rest e refl (expr_bytes_size (at + 3) a) in
    (expression_read (Binary op m) _ tt e, expr_from_bytes a f (at + 3) (expr_bytes m b ++ rest) h.0 p.0, expr_from_bytes b f m rest h.1 p.1)
expr_from_bytes (negation a) f at rest h e =
    (expression_read Not _ tt e, expr_from_bytes a f (at + 1) rest h (behind f at 1 (expression_written Not) _ e refl))

pub expr_behind : (e : Expr) (f : List ℕ) (at : ℕ) (rest : List ℕ) → drop at f ≡ expr_bytes at e ++ rest → drop (at + expr_size e) f ≡ rest
expr_behind e f at rest h = behind f at (expr_size e) (expr_bytes at e) rest h (expr_bytes_size at e)

pub exprs_bytes_size : (at : ℕ) (es : List Expr) → length (exprs_bytes at es) ≡ exprs_size es
exprs_bytes_size at [] = refl
exprs_bytes_size at (e ∷ es) =
    let p = expr_bytes_size at e in let q = exprs_bytes_size (at + expr_size e) es in
    omega (arith, length-append (expr_bytes at e) (exprs_bytes (at + expr_size e) es))

pub exprs_from_bytes : (es : List Expr) (f : List ℕ) (at : ℕ) (rest : List ℕ) → ExprsInRange es → drop at f ≡ exprs_bytes at es ++ rest → ExprsAt f at es
exprs_from_bytes [] f at rest h e = tt
exprs_from_bytes (x ∷ es) f at rest h e =
    let d : drop at f ≡ expr_bytes at x ++ (exprs_bytes (at + expr_size x) es ++ rest) = e ∙ append_assoc (expr_bytes at x) (exprs_bytes (at + expr_size x) es) rest in
    (expr_from_bytes x f at _ h.0 d, exprs_from_bytes es f (at + expr_size x) rest h.1 (expr_behind x f at _ d))

pub padded_long : (vs : List ℕ) → length vs ≤ 4 → length (padded vs) ≡ 4
padded_long vs h = omega (arith, length-append vs (replicate (4 - length vs) 255), length-replicate {A = ℕ} (4 - length vs) 255)

pub stmt_bytes_size : (at : ℕ) (s : Stmt) → StmtInRange s → length (stmt_bytes at s) ≡ stmt_size s
stmt_bytes_size at skip h = refl
stmt_bytes_size at (assign v e) h = omega (arith, expr_bytes_size (at + 2) e)
stmt_bytes_size at (send c m es) h = omega (arith, exprs_bytes_size (at + 4) es)
stmt_bytes_size at (receive c m vs) h = omega (arith, padded_long vs h)
stmt_bytes_size at (sequence a b) h =
    let p = stmt_bytes_size (at + 3) a h.0 in let q = stmt_bytes_size (at + 3 + stmt_size a) b h.1 in
    omega (arith, length-append (stmt_bytes (at + 3) a) (stmt_bytes (at + 3 + stmt_size a) b))
stmt_bytes_size at (select a b) h =
    let p = stmt_bytes_size (at + 3) a h.0 in let q = stmt_bytes_size (at + 3 + stmt_size a) b h.1 in
    omega (arith, length-append (stmt_bytes (at + 3) a) (stmt_bytes (at + 3 + stmt_size a) b))
stmt_bytes_size at (guard e a) h =
    let p = expr_bytes_size (at + 3) e in let q = stmt_bytes_size (at + 3 + expr_size e) a h.1 in
    omega (arith, length-append (expr_bytes (at + 3) e) (stmt_bytes (at + 3 + expr_size e) a))
stmt_bytes_size at (branch e a b) h =
    let m = at + 5 + expr_size e in
    let n = m + stmt_size a in
    let p = expr_bytes_size (at + 5) e in let q = stmt_bytes_size m a h.1 in let r = stmt_bytes_size n b h.2 in
    omega (arith, length-append (expr_bytes (at + 5) e) (stmt_bytes m a ++ stmt_bytes n b), length-append (stmt_bytes m a) (stmt_bytes n b))
stmt_bytes_size at (loop e a) h =
    let p = expr_bytes_size (at + 3) e in let q = stmt_bytes_size (at + 3 + expr_size e) a h.1 in
    omega (arith, length-append (expr_bytes (at + 3) e) (stmt_bytes (at + 3 + expr_size e) a))

pub stmt_behind : (s : Stmt) (f : List ℕ) (at : ℕ) (rest : List ℕ) → StmtInRange s → drop at f ≡ stmt_bytes at s ++ rest → drop (at + stmt_size s) f ≡ rest
stmt_behind s f at rest h e = behind f at (stmt_size s) (stmt_bytes at s) rest e (stmt_bytes_size at s h)

pub stmt_from_bytes : (s : Stmt) (f : List ℕ) (at : ℕ) (rest : List ℕ) → StmtInRange s → drop at f ≡ stmt_bytes at s ++ rest → StmtAt f at s
stmt_from_bytes skip f at rest h e = statement_read Skip rest tt e
stmt_from_bytes (assign v x) f at rest h e =
    (statement_read (Set v) _ tt e, expr_from_bytes x f (at + 2) rest h (behind f at 2 (statement_written (Set v)) _ e refl))
stmt_from_bytes (send c m es) f at rest h e =
    (statement_read (Send c m (length es)) _ tt e, exprs_from_bytes es f (at + 4) rest h (behind f at 4 (statement_written (Send c m (length es))) _ e refl))
stmt_from_bytes (receive c m vs) f at rest h e = statement_read (Recv c m (length vs) (padded vs)) rest (padded_long vs h) e
stmt_from_bytes (sequence a b) f at rest h e =
    let m = at + 3 + stmt_size a in
    let x = stmt_bytes (at + 3) a in
    let y = stmt_bytes m b in
    let p = parts f at 3 (stmt_size a) (statement_written (Seq m)) x y rest e refl (stmt_bytes_size (at + 3) a h.0) in
    (statement_read (Seq m) ((x ++ y) ++ rest) tt e, stmt_from_bytes a f (at + 3) (y ++ rest) h.0 p.0, stmt_from_bytes b f m rest h.1 p.1)
stmt_from_bytes (select a b) f at rest h e =
    let m = at + 3 + stmt_size a in
    let x = stmt_bytes (at + 3) a in
    let y = stmt_bytes m b in
    let p = parts f at 3 (stmt_size a) (statement_written (Sel m)) x y rest e refl (stmt_bytes_size (at + 3) a h.0) in
    (statement_read (Sel m) ((x ++ y) ++ rest) tt e, stmt_from_bytes a f (at + 3) (y ++ rest) h.0 p.0, stmt_from_bytes b f m rest h.1 p.1)
stmt_from_bytes (guard c a) f at rest h e =
    let m = at + 3 + expr_size c in
    let x = expr_bytes (at + 3) c in
    let y = stmt_bytes m a in
    let p = parts f at 3 (expr_size c) (statement_written (Guard m)) x y rest e refl (expr_bytes_size (at + 3) c) in
    (statement_read (Guard m) ((x ++ y) ++ rest) tt e, expr_from_bytes c f (at + 3) (y ++ rest) h.0 p.0, stmt_from_bytes a f m rest h.1 p.1)
stmt_from_bytes (branch c a b) f at rest h e =
    let m = at + 5 + expr_size c in
    let n = m + stmt_size a in
    let x = expr_bytes (at + 5) c in
    let y = stmt_bytes m a in
    let z = stmt_bytes n b in
    let p = parts f at 5 (expr_size c) (statement_written (If m n)) x (y ++ z) rest e refl (expr_bytes_size (at + 5) c) in
    let q : drop m f ≡ y ++ (z ++ rest) = p.1 ∙ append_assoc y z rest in (
      statement_read (If m n) ((x ++ (y ++ z)) ++ rest) tt e,
      expr_from_bytes c f (at + 5) ((y ++ z) ++ rest) h.0 p.0,
      stmt_from_bytes a f m (z ++ rest) h.1 q,
      stmt_from_bytes b f n rest h.2 (stmt_behind a f m (z ++ rest) h.1 q),
    )
stmt_from_bytes (loop c a) f at rest h e =
    let m = at + 3 + expr_size c in
    let x = expr_bytes (at + 3) c in
    let y = stmt_bytes m a in
    let p = parts f at 3 (expr_size c) (statement_written (Do m)) x y rest e refl (expr_bytes_size (at + 3) c) in
    (statement_read (Do m) ((x ++ y) ++ rest) tt e, expr_from_bytes c f (at + 3) (y ++ rest) h.0 p.0, stmt_from_bytes a f m rest h.1 p.1)

pub behaviour_bytes_size : (at : ℕ) (b : Behaviour) → length (behaviour_bytes at b) ≡ behaviour_size b
behaviour_bytes_size at (process c) = refl
behaviour_bytes_size at (parallel a b) =
    let p = behaviour_bytes_size (at + 3) a in let q = behaviour_bytes_size (at + 3 + behaviour_size a) b in
    omega (arith, length-append (behaviour_bytes (at + 3) a) (behaviour_bytes (at + 3 + behaviour_size a) b))
behaviour_bytes_size at (hide s a) = omega (arith, behaviour_bytes_size (at + 5) a)
behaviour_bytes_size at (rename x y a) = omega (arith, behaviour_bytes_size (at + 3) a)

pub behaviour_behind : (b : Behaviour) (f : List ℕ) (at : ℕ) (rest : List ℕ) → drop at f ≡ behaviour_bytes at b ++ rest → drop (at + behaviour_size b) f ≡ rest
behaviour_behind b f at rest e = behind f at (behaviour_size b) (behaviour_bytes at b) rest e (behaviour_bytes_size at b)

pub behaviour_from_bytes : (b : Behaviour) (f : List ℕ) (at : ℕ) (rest : List ℕ) → drop at f ≡ behaviour_bytes at b ++ rest → BehaviourAt f at b
behaviour_from_bytes (process c) f at rest e = behaviour_read (Proc c) rest e
behaviour_from_bytes (parallel a b) f at rest e =
    let m = at + 3 + behaviour_size a in
    let p = parts f at 3 (behaviour_size a) (behaviour_written (Par m)) (behaviour_bytes (at + 3) a) (behaviour_bytes m b) rest e refl (behaviour_bytes_size (at + 3) a) in
    (behaviour_read (Par m) _ e, behaviour_from_bytes a f (at + 3) _ p.0, behaviour_from_bytes b f m rest p.1)
behaviour_from_bytes (hide s a) f at rest e =
    (behaviour_read (Hide s) _ e, behaviour_from_bytes a f (at + 5) rest (behind f at 5 (behaviour_written (Hide s)) _ e refl))
behaviour_from_bytes (rename x y a) f at rest e =
    (behaviour_read (Rename x y) _ e, behaviour_from_bytes a f (at + 3) rest (behind f at 3 (behaviour_written (Rename x y)) _ e refl))
