-- What `array::from_fn` makes, where its calls change nothing.
use Rattle.std.proofs.Common.{◌≡◌, ℕ, zero, suc, ◌+◌, List, [], ◌∷◌, length, drop, ap₂, ◌∙◌, subst, arith}
use Rattle.std.specs.Array.{IsFromFnResultFrom}
use Rattle.std.specs.Fn.{Mut, Called}
use Rattle.std.proofs.lemmas.List.{drop_more, drop_all}

-- v at each of n numbers, from i on
abbrev pub each : {B : Type 0} → (ℕ → B) → ℕ → ℕ → List B
each v i zero = []
each v i (suc n) = v i ∷ each v (i + 1) n

module _ {F B : Type 0} (g : Mut F (ℕ × Unit {0}) B) (v : ℕ → B) (f : F) (gives : (i : ℕ) (y : B) (q : F) → Called g f (i, tt) y q → (q ≡ f) × (y ≡ v i)) (ys : List B) where
  pub made_from : (i n : ℕ) → length ys ≡ i + n → IsFromFnResultFrom g f ys i n → drop i ys ≡ each v i n
  made_from i zero l h = drop_all i ys (omega arith)
  made_from i (suc n) l (q, y, at, called, rest) =
      let e = gives i y q called in
      drop_more ys i y (omega arith) ∙ ap₂ (λ x xs. x ∷ xs) (at.0 ∙ e.1) (made_from (i + 1) n (omega arith) (subst (λ p. IsFromFnResultFrom g p ys (i + 1) n) e.0 rest))
