-- Seniority as its loops go.
use Rattle.std.proofs.Common.{◌≡◌, ℕ, suc, ◌+◌, ◌-◌, ◌<◌, ◌≤◌, ◌==◌, ltb, Bool, true, false, not, cond, List, [], ◌∷◌, ◌++◌, length, take, drop, Some, None, Option, slice_index, sym, refl, ap, ◌∙◌, subst, arith}
use Rattle.std.specs.List.{position, position_or_len}
use borrow.Rule.Slice.PartMut.{put_mid, post_of}
use Rattle.std.proofs.lemmas.List.{at_drop_more, take_all, take_rest, append-nil, length-drop, drop_all}
use Rattle.std.proofs.lemmas.Bool.{ltb-true, ltb-false}
use Rattle.records.specs.Steps.{has}
use Rattle.choosers.specs.Meanings.{Question}
use Rattle.choosers.specs.Firsts.{first, by_some}
use Rattle.choosers.specs.Seniorities.{senior_step, to_end}

-- the frontmost process, from place i on

module _ (order : List ℕ) (q : Question) (i : ℕ) where
  at_place : (o : Option ℕ) → i < length order → first (has (slice_index order i)) q ≡ o → senior_step (drop i order) q ≡ by_some o (λ k. Some k) (senior_step (drop (i + 1) order) q)
  at_place o h e = at_drop_more (λ ps. senior_step ps q) order i 0 h ∙ ap (λ x. by_some x (λ k. Some k) (senior_step (drop (i + 1) order) q)) e

  pub senior_here : (k : ℕ) → i < length order → first (has (slice_index order i)) q ≡ Some k → senior_step (drop i order) q ≡ Some k
  senior_here k h e = at_place (Some k) h e

  pub senior_more : i < length order → first (has (slice_index order i)) q ≡ None → senior_step (drop i order) q ≡ senior_step (drop (i + 1) order) q
  senior_more h e = at_place None h e

-- a process moves to the end, by its place

abbrev turned : ℕ → List ℕ → List ℕ
turned n o = take n o ++ (drop 1 (drop n o) ++ take 1 (drop n o))

end_by_place : (p : ℕ) (o : List ℕ) → to_end p o ≡ turned (position_or_len (λ x. x == p) o) o
end_by_place p [] = refl
end_by_place p (x ∷ xs) = go (x == p) (position_or_len (λ y. y == p) xs) (end_by_place p xs)
  where
    go : (b : Bool) (n : ℕ) → to_end p xs ≡ turned n xs → cond b (xs ++ x ∷ []) (x ∷ to_end p xs) ≡ turned (cond (not b) (1 + n) 0) (x ∷ xs)
    go true n _ = refl
    go false n more = let e : 1 + n ≡ suc n = omega arith in rw e (ap (λ ys. x ∷ ys) more)

found : (n l i : ℕ) → cond (ltb n l) (Some n) None ≡ Some i → (n ≡ i) × (i < l)
found n l i = go (ltb n l) refl
  where
    go : (b : Bool) → ltb n l ≡ b → cond b (Some n) None ≡ Some i → (n ≡ i) × (i < l)
    go true t e = let s : n ≡ i = cc in let m = ltb-true n l t in (s, omega arith)
    go false t e = absurd (let z : ◌≡◌ {A = ℕ} 0 1 = cc in omega arith)

missed : (n l : ℕ) → cond (ltb n l) (Some n) None ≡ None → l ≤ n
missed n l = go (ltb n l) refl
  where
    go : (b : Bool) → ltb n l ≡ b → cond b (Some n) None ≡ None → l ≤ n
    go true t e = absurd (let z : ◌≡◌ {A = ℕ} 0 1 = cc in omega arith)
    go false t e = ltb-false n l t

module _ (order : List ℕ) (p : ℕ) where
  pub end_absent : position (λ x. x == p) order ≡ None → to_end p order ≡ order
  end_absent e =
      let n = position_or_len (λ x. x == p) order in
      let l = missed n (length order) e in
      end_by_place p order ∙ rw (take_all n order l, drop_all n order l) (append-nil order)

  -- what `order[i..].rotate_left(1)` leaves
  pub rotated : (i : ℕ) (ys : List ℕ) → position (λ x. x == p) order ≡ Some i → ys ≡ drop 1 (take (length order - i) (drop i order)) ++ take 1 (take (length order - i) (drop i order)) → put_mid i (length order - i) order ys ≡ to_end p order
  rotated i ys e f =
      let h = found (position_or_len (λ x. x == p) order) (length order) i e in
      let rest : post_of i (length order - i) order ≡ [] = drop_all (length order - i) (drop i order) (let z = length-drop i order in omega arith) in
      ap (λ xs. take i order ++ xs) (ap (λ xs. ys ++ xs) rest ∙ append-nil ys ∙ f ∙ ap (λ xs. drop 1 xs ++ take 1 xs) (take_rest order i)) ∙ sym (subst (λ n. to_end p order ≡ turned n order) h.0 (end_by_place p order))
