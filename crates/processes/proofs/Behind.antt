-- The fronts of a statement before the rest of its process.
use Rattle.std.proofs.Common.{◌≡◌, Bool, true, false, cond, List, [], ◌∷◌, ◌++◌, map, refl, append_assoc}
use Rattle.commands.specs.Trees.{Stmt}
use Rattle.processes.specs.Fronts.{Front, front, offered, behind}

pub twice : (xs ys : List Stmt) (fs : List Front) → map (behind ys) (map (behind xs) fs) ≡ map (behind (xs ++ ys)) fs
twice xs ys [] = refl
twice xs ys (x ∷ fs) =
    let p = append_assoc x.leaves xs ys in
    let r = twice xs ys fs in
    (λ i. front x.number x.does x.variables (p i) ∷ r i)

module _ (rest : List Stmt) where
  pub behind_guard : (t : Bool) (fs : List Front) → map (behind rest) (cond t fs []) ≡ cond t (map (behind rest) fs) []
  behind_guard true fs = refl
  behind_guard false fs = refl

  pub behind_ways : (t u : Bool) (x y : Front) → map (behind rest) (offered t x ++ offered u y) ≡ offered t (behind rest x) ++ offered u (behind rest y)
  behind_ways true true x y = refl
  behind_ways true false x y = refl
  behind_ways false true x y = refl
  behind_ways false false x y = refl
