-- The front of a number among the fronts of a statement.
use Rattle.std.proofs.Common.{◌≡◌, ℕ, zero, suc, ◌+◌, ◌<◌, ◌≤◌, true, false, cond, not, eqb, List, [], ◌∷◌, ◌++◌, Some, None, refl, ap, arith, eq-eqb, ne_eqb}
use Rattle.values.specs.Values.{Val, integer, boolean}
use Rattle.processes.specs.declared.front.Action.{Action as ActionC}
use Rattle.processes.specs.declared.front.Action.TheVariants.{Internal}
use Rattle.processes.specs.declared.left.Left.{Left}
use Rattle.processes.specs.Found.{Answers, StandsFor, front_numbered, one_front, two_fronts}
use Rattle.processes.specs.Fronts.{Front, is_true, is_false, offered}
use Rattle.processes.specs.Laws.{Ascend}

module _ (n : ℕ) where
  none_below : (from below : ℕ) (xs : List Front) → Ascend from xs below → n < from → front_numbered n xs ≡ None
  none_below from below [] h l = refl
  none_below from below (x ∷ xs) h l = rw (ne_eqb x.number n (λ e. omega (arith, e, h.0, l))) (none_below (x.number + 1) below xs h.1 (omega (arith, h.0, l)))

  ascend_bound : (from below : ℕ) (xs : List Front) → Ascend from xs below → from ≤ below
  ascend_bound from below [] h = h
  ascend_bound from below (x ∷ xs) h = omega (arith, h.0, ascend_bound (x.number + 1) below xs h.1)

  -- in a list whose second part begins at a number
  pub in_first : (middle below : ℕ) (xs ys : List Front) → Ascend middle ys below → n < middle → front_numbered n (xs ++ ys) ≡ front_numbered n xs
  in_first middle below [] ys h l = none_below middle below ys h l
  in_first middle below (x ∷ xs) ys h l = ap (λ r. cond (eqb x.number n) (Some x) r) (in_first middle below xs ys h l)

  pub in_second : (from middle : ℕ) (xs ys : List Front) → Ascend from xs middle → middle ≤ n → front_numbered n (xs ++ ys) ≡ front_numbered n ys
  in_second from middle [] ys h l = refl
  in_second from middle (x ∷ xs) ys h l =
      let b = ascend_bound (x.number + 1) middle xs h.1 in
      rw (ne_eqb x.number n (λ e. omega (arith, e, b, l))) (in_second (x.number + 1) middle xs ys h.1 l)

module _ (f : List ℕ) (vs : List Val) (k : ℕ) where
  pub one_found : (n : ℕ) (a : ActionC) (l : Left) (y : Front) → y.number ≡ k → StandsFor f vs (record { action = a; leaves = l }) y → Answers f vs (one_front n a l) (front_numbered (k + n) (y ∷ []))
  one_found zero a l y e s = rw (eq-eqb y.number (k + 0) (omega (arith, e))) s
  one_found (suc n) a l y e s = rw (ne_eqb (suc n) 0 (λ i. omega arith), ne_eqb y.number (k + suc n) (λ i. omega (arith, e, i))) tt

  module _ (a b : Left) (x y : Front) (p : x.number ≡ k) (q : y.number ≡ k + 1) (s : StandsFor f vs (record { action = Internal; leaves = a }) x) (t : StandsFor f vs (record { action = Internal; leaves = b }) y) where
    first_is : eqb x.number (k + 0) ≡ true
    first_is = eq-eqb x.number (k + 0) (omega (arith, p))

    second_is : eqb y.number (k + 1) ≡ true
    second_is = eq-eqb y.number (k + 1) (omega (arith, q))

    first_not : (n : ℕ) → eqb x.number (k + suc n) ≡ false
    first_not n = ne_eqb x.number (k + suc n) (λ i. omega (arith, p, i))

    second_not : (n : ℕ) → (n ≡ 1 → ⊥) → eqb y.number (k + n) ≡ false
    second_not n h = ne_eqb y.number (k + n) (λ i. h (omega (arith, q, i)))

    pub two_found : (n : ℕ) (v : Val) → Answers f vs (two_fronts v n a b) (front_numbered (k + n) (offered (not (is_false v)) x ++ offered (not (is_true v)) y))
    two_found zero (integer z) = rw first_is s
    two_found zero (boolean None) = rw first_is s
    two_found zero (boolean (Some true)) = rw first_is s
    two_found zero (boolean (Some false)) = rw (second_not 0 (λ i. omega (arith, i))) tt
    two_found (suc zero) (integer z) = rw (first_not 0, second_is) t
    two_found (suc zero) (boolean None) = rw (first_not 0, second_is) t
    two_found (suc zero) (boolean (Some true)) = rw (first_not 0) tt
    two_found (suc zero) (boolean (Some false)) = rw second_is t
    two_found (suc (suc n)) v = rw (ne_eqb (suc (suc n)) 0 (λ i. omega arith), ne_eqb (suc (suc n)) 1 (λ i. omega arith)) (past n v)
      where
        past : (n : ℕ) (v : Val) → Answers f vs None (front_numbered (k + suc (suc n)) (offered (not (is_false v)) x ++ offered (not (is_true v)) y))
        past n (integer z) = rw (first_not (suc n), second_not (suc (suc n)) (λ i. omega (arith, i))) tt
        past n (boolean None) = rw (first_not (suc n), second_not (suc (suc n)) (λ i. omega (arith, i))) tt
        past n (boolean (Some true)) = rw (first_not (suc n)) tt
        past n (boolean (Some false)) = rw (second_not (suc (suc n)) (λ i. omega (arith, i))) tt
