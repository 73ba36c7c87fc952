-- Front numbers ascend.
use Rattle.std.proofs.Common.{◌≡◌, ℕ, ◌+◌, ◌≤◌, Bool, true, false, cond, not, List, [], ◌∷◌, ◌++◌, map, Some, None, refl, subst, arith}
use Rattle.values.specs.Values.{Val, integer, boolean}
use Rattle.commands.specs.Trees.{Stmt, skip, assign, send, receive, sequence, select, guard, branch, loop}
use Rattle.admission.specs.Conditions.{most_fronts}
use Rattle.processes.specs.Evaluation.{eval}
use Rattle.processes.specs.Fronts.{Front, front, internal, is_true, is_false, offered, behind, fronts}
use Rattle.processes.specs.Laws.{Ascend}

-- a list that ends below a number may be followed by one that begins there
joined : (from middle below : ℕ) (xs ys : List Front) → Ascend from xs middle → Ascend middle ys below → Ascend from (xs ++ ys) below
joined from middle below [] [] h k = omega (arith, h, k)
joined from middle below [] (y ∷ ys) h k = (omega (arith, h, k.0), k.1)
joined from middle below (x ∷ xs) ys h k = (h.0, joined (x.number + 1) middle below xs ys h.1 k)

two_ways : (v : Val) (n : ℕ) (x y : Front) → x.number ≡ n → y.number ≡ n + 1 → Ascend n (offered (not (is_false v)) x ++ offered (not (is_true v)) y) (n + 2)
two_ways (integer z) n x y p q = (omega (arith, p), (omega (arith, p, q), omega (arith, q)))
two_ways (boolean None) n x y p q = (omega (arith, p), (omega (arith, p, q), omega (arith, q)))
two_ways (boolean (Some true)) n x y p q = (omega (arith, p), omega (arith, p))
two_ways (boolean (Some false)) n x y p q = (omega (arith, q), omega (arith, q))

guarded : (b : Bool) (n below : ℕ) (xs : List Front) → n ≤ below → Ascend n xs below → Ascend n (cond b xs []) below
guarded true n below xs l h = h
guarded false n below xs l h = l

-- what stands behind changes no number
pub ascend_behind : (rest : List Stmt) (from below : ℕ) (fs : List Front) → Ascend from fs below → Ascend from (map (behind rest) fs) below
ascend_behind rest from below [] h = h
ascend_behind rest from below (x ∷ fs) h = (h.0, ascend_behind rest (x.number + 1) below fs h.1)

pub numbered : (vs : List Val) (n : ℕ) (s : Stmt) → Ascend n (fronts vs n s) (n + most_fronts s)
numbered vs n skip = (omega arith, omega arith)
numbered vs n (assign v e) = (omega arith, omega arith)
numbered vs n (send c m es) = (omega arith, omega arith)
numbered vs n (receive c m ws) = (omega arith, omega arith)
numbered vs n (sequence a b) = ascend_behind (b ∷ []) n (n + most_fronts a) (fronts vs n a) (numbered vs n a)
numbered vs n (select a b) =
    let long : n + most_fronts a + most_fronts b ≡ n + (most_fronts a + most_fronts b) = omega arith in
    subst (Ascend n (fronts vs n (select a b))) long (joined n (n + most_fronts a) (n + most_fronts a + most_fronts b) (fronts vs n a) (fronts vs (n + most_fronts a) b) (numbered vs n a) (numbered vs (n + most_fronts a) b))
numbered vs n (guard e a) = guarded (is_true (eval e vs)) n (n + most_fronts a) (fronts vs n a) (omega arith) (numbered vs n a)
numbered vs n (branch e a b) = two_ways (eval e vs) n (front n internal vs (a ∷ [])) (front (n + 1) internal vs (b ∷ [])) refl refl
numbered vs n (loop e a) = two_ways (eval e vs) n (front n internal vs (a ∷ loop e a ∷ [])) (front (n + 1) internal vs []) refl refl

-- the same before the rest of a process
pub numbered_before : (vs : List Val) (n : ℕ) (s : Stmt) (rest : List Stmt) → Ascend n (map (behind rest) (fronts vs n s)) (n + most_fronts s)
numbered_before vs n s rest = ascend_behind rest n (n + most_fronts s) (fronts vs n s) (numbered vs n s)
