-- A text of numbers in a row, one number more.
use Rattle.std.proofs.Common.{◌≡◌, ℕ, zero, suc, ◌+◌, List, ◌++◌, sym, ap, ◌∙◌, append-nil, append_assoc, arith}
use Rattle.std.specs.List.{flat_map, range_with_len}

one_more : (f : ℕ → List ℕ) (a n : ℕ) → flat_map f (range_with_len a (suc n)) ≡ flat_map f (range_with_len a n) ++ f (a + n)
one_more f a zero = let here : a ≡ a + 0 = omega arith in append-nil (f a) ∙ ap f here
one_more f a (suc n) =
    let last : a + 1 + n ≡ a + suc n = omega arith in
    ap (λ l. f a ++ l) (one_more f (a + 1) n ∙ ap (λ k. flat_map f (range_with_len (a + 1) n) ++ f k) last) ∙ sym (append_assoc (f a) (flat_map f (range_with_len (a + 1) n)) (f (a + suc n)))

pub range_more : (f : ℕ → List ℕ) (n : ℕ) → flat_map f (range_with_len 0 (n + 1)) ≡ flat_map f (range_with_len 0 n) ++ f n
range_more f n = let next : n + 1 ≡ suc n = omega arith in let here : 0 + n ≡ n = omega arith in rw next (one_more f 0 n ∙ ap (λ k. flat_map f (range_with_len 0 n) ++ f k) here)
