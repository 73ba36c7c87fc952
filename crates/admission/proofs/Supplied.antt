-- Statements and behaviours that keep the conditions, and their bytes.
use Rattle.std.proofs.Common.{◌≡◌, ℕ, ◌+◌, ◌<◌, ◌≤◌, List, [], ◌∷◌, ◌++◌, length, drop, ap, arith, length-append, length-drop}
use Rattle.values.specs.declared.kind.Kind.{Kind}
use Rattle.commands.specs.declared.expression.Leaf.{Leaf}
use Rattle.commands.specs.declared.expression.Leaf.TheVariants.{Int, Bool as BoolL, Iunk, Var}
use Rattle.commands.specs.Bytes.{stmt_bytes, behaviour_bytes, file_bytes}
use Rattle.commands.specs.Ranges.{LeafInRange, InRange, ExprsInRange, StmtInRange}
use Rattle.commands.specs.Trees.{Expr, leaf, binary, negation, Stmt, skip, assign, send, receive, sequence, select, guard, branch, loop, Behaviour, process, parallel, hide, rename, Declaration, File, stmt_size, behaviour_size}
use Rattle.commands.proofs.Decoded.{stmt_to_bytes, behaviour_to_bytes}
use Rattle.commands.proofs.Encoded.{stmt_from_bytes, stmt_bytes_size, stmt_behind, behaviour_from_bytes, behaviour_bytes_size, behaviour_behind}
use Rattle.commands.proofs.Unique.{stmt_one, behaviour_one}
use Rattle.admission.specs.Admission.{Admits}
use Rattle.admission.specs.Conditions.{Conditions, LeafKept, ExprKept, ExprsKept, StmtKept}
use Rattle.admission.proofs.ClassBytes.{StmtWritten}
use Rattle.admission.proofs.FileBytes.{BehaviourWritten, admits_from, file_written}
use Rattle.admission.proofs.FileParts.{FileAt}

leaf_ranged : (l : Leaf) (ks : List Kind) (k : Kind) → LeafKept ks k l → LeafInRange l
leaf_ranged (Int z) ks k h = h.1
leaf_ranged (BoolL b) ks k h = tt
leaf_ranged Iunk ks k h = tt
leaf_ranged (Var v) ks k h = tt

expr_ranged : (e : Expr) (ks : List Kind) (k : Kind) → ExprKept ks k e → InRange e
expr_ranged (leaf l) ks k h = leaf_ranged l ks k h
expr_ranged (binary op a b) ks k h = (expr_ranged a ks h.1.0 h.1.2, expr_ranged b ks h.1.0 h.1.3)
expr_ranged (negation a) ks k h = expr_ranged a ks _ h.1

exprs_ranged : (es : List Expr) (ks js : List Kind) → ExprsKept ks js es → ExprsInRange es
exprs_ranged [] ks js h = tt
exprs_ranged (e ∷ es) ks [] h = absurd h
exprs_ranged (e ∷ es) ks (j ∷ js) h = (expr_ranged e ks j h.0, exprs_ranged es ks js h.1)

stmt_ranged : (t : Stmt) (ks : List Kind) (ds : List Declaration) → StmtKept ks ds t → StmtInRange t
stmt_ranged skip ks ds h = tt
stmt_ranged (assign v e) ks ds h = expr_ranged e ks h.0 h.2
stmt_ranged (send c m es) ks ds h = exprs_ranged es ks h.1.0 h.1.1
stmt_ranged (receive c m vs) ks ds h = h.0.count_kept
stmt_ranged (sequence a b) ks ds h = (stmt_ranged a ks ds h.0, stmt_ranged b ks ds h.1)
stmt_ranged (select a b) ks ds h = (stmt_ranged a ks ds h.1, stmt_ranged b ks ds h.2)
stmt_ranged (guard e a) ks ds h = (expr_ranged e ks _ h.0, stmt_ranged a ks ds h.1)
stmt_ranged (branch e a b) ks ds h = (expr_ranged e ks _ h.0, stmt_ranged a ks ds h.1, stmt_ranged b ks ds h.2)
stmt_ranged (loop e a) ks ds h = (expr_ranged e ks _ h.0, stmt_ranged a ks ds h.1)

stmt_some : (t : Stmt) → 0 < stmt_size t
stmt_some skip = omega arith
stmt_some (assign v e) = omega arith
stmt_some (send c m es) = omega arith
stmt_some (receive c m vs) = omega arith
stmt_some (sequence a b) = omega arith
stmt_some (select a b) = omega arith
stmt_some (guard e a) = omega arith
stmt_some (branch e a b) = omega arith
stmt_some (loop e a) = omega arith

behaviour_some : (t : Behaviour) → 0 < behaviour_size t
behaviour_some (process c) = omega arith
behaviour_some (parallel a b) = omega arith
behaviour_some (hide s a) = omega arith
behaviour_some (rename x y a) = omega arith

-- what stands at a place lies within the file
inside : (f : List ℕ) (at n : ℕ) (xs rest : List ℕ) → drop at f ≡ xs ++ rest → length xs ≡ n → 0 < n → at + n ≤ length f
inside f at n xs rest e h some = omega (arith, ap length e, length-drop at f, length-append xs rest)

stmt_written : StmtWritten
stmt_written t ks ds k f at rest e =
    let r = stmt_ranged t ks ds k in
    (stmt_from_bytes t f at rest r e, stmt_behind t f at rest r e, inside f at (stmt_size t) (stmt_bytes at t) rest e (stmt_bytes_size at t r) (stmt_some t))

behaviour_written : BehaviourWritten
behaviour_written t n k f at rest e =
    (behaviour_from_bytes t f at rest e, behaviour_behind t f at rest e, inside f at (behaviour_size t) (behaviour_bytes at t) rest e (behaviour_bytes_size at t) (behaviour_some t))

-- a tree that keeps the conditions stands in its bytes
pub stands : (t : File) → Conditions t → FileAt (file_bytes t) t
stands = file_written stmt_written behaviour_written

pub admits : Admits
admits = admits_from stmt_to_bytes stmt_written stmt_one behaviour_to_bytes behaviour_written behaviour_one
