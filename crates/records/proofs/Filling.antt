-- A loop that fills a list: for each x of xs, in order, the records f x.
use Rattle.std.proofs.Common.{◌≡◌, ℕ, ◌+◌, ◌<◌, ◌≤◌, List, [], ◌∷◌, ◌++◌, length, get_or, drop, Some, None, Option, sym, refl, ap, ◌∙◌, subst, append_assoc, zero-add, arith, length-append}
use Rattle.std.specs.List.{range_with_len, flat_map}
use Rattle.std.proofs.lemmas.List.FromFn.{length-range_with_len, get_or-range_with_len}
use Rattle.std.proofs.lemmas.List.{at_drop_more, at_drop_all, append-nil}
use Rattle.records.specs.declared.list.RecordList.{RecordList}
use Rattle.records.specs.Lists.{items, room_of, optional, Room, Grown}

-- before the turn at i: what the rest gives is what is missing
pub record Filling {X T : Type 0} (f : X → List T) (xs : List X) (i : ℕ) (before here : RecordList T) : Type 0 where
  pub list : items here ++ flat_map f (drop i xs) ≡ items before ++ flat_map f xs
  pub same_room : room_of here ≡ room_of before

module _ {X T : Type 0} (f : X → List T) (xs : List X) (before : RecordList T) where
  pub fill_none : Filling f xs 0 before before
  fill_none = record { list = refl; same_room = refl }

  pub fill_fits : (i : ℕ) (d : X) (here : RecordList T) → Filling f xs i before here → i < length xs → Room before (flat_map f xs) → Room here (f (get_or xs i d))
  fill_fits i d here h l r =
      let e : flat_map f (drop i xs) ≡ f (get_or xs i d) ++ flat_map f (drop (i + 1) xs) = at_drop_more (flat_map f) xs i d l in
      let n = simp (length-append, e) at (ap length h.list) in
      let q = h.same_room in
      record { fits = omega arith }

  pub fill_more : (i : ℕ) (d : X) (here next : RecordList T) → Filling f xs i before here → i < length xs → Grown here next (f (get_or xs i d)) → Filling f xs (i + 1) before next
  fill_more i d here next h l g =
      let e : flat_map f (drop i xs) ≡ f (get_or xs i d) ++ flat_map f (drop (i + 1) xs) = at_drop_more (flat_map f) xs i d l in
      record {
        list = rw (g.list, append_assoc, ← e) h.list;
        same_room = g.same_room ∙ h.same_room;
      }

  pub fill_all : (i : ℕ) (here : RecordList T) → Filling f xs i before here → length xs ≤ i → Grown before here (flat_map f xs)
  fill_all i here h l =
      let e : flat_map f (drop i xs) ≡ [] = at_drop_all (flat_map f) xs i l in
      record {
        list = sym (append-nil (items here)) ∙ rw e at h.list;
        same_room = h.same_room;
      }

-- the same for a loop that counts
module _ {T : Type 0} (f : ℕ → List T) (n : ℕ) (before : RecordList T) where
  at_count : (i : ℕ) → i < n → get_or (range_with_len 0 n) i 0 ≡ i
  at_count i h = get_or-range_with_len 0 n i 0 h ∙ zero-add i

  pub count_fits : (i : ℕ) (here : RecordList T) → Filling f (range_with_len 0 n) i before here → i < n → Room before (flat_map f (range_with_len 0 n)) → Room here (f i)
  count_fits i here h l r = subst (λ k. Room here (f k)) (at_count i l) (fill_fits f (range_with_len 0 n) before i 0 here h (omega (arith, length-range_with_len 0 n)) r)

  pub count_more : (i : ℕ) (here next : RecordList T) → Filling f (range_with_len 0 n) i before here → i < n → Grown here next (f i) → Filling f (range_with_len 0 n) (i + 1) before next
  count_more i here next h l g = fill_more f (range_with_len 0 n) before i 0 here next h (omega (arith, length-range_with_len 0 n)) (subst (λ k. Grown here next (f k)) (sym (at_count i l)) g)

  pub count_all : (i : ℕ) (here : RecordList T) → Filling f (range_with_len 0 n) i before here → n ≤ i → Grown before here (flat_map f (range_with_len 0 n))
  count_all i here h l = fill_all f (range_with_len 0 n) before i here h (omega (arith, length-range_with_len 0 n))

-- a loop that appends at most one record for each element
pub optional_few : {X T : Type 0} (g : X → Option T) (xs : List X) → length (flat_map (λ x. optional (g x)) xs) ≤ length xs
optional_few g [] = omega arith
optional_few g (x ∷ xs) = simp length-append (omega (arith, one_at_most (g x), optional_few g xs))
  where
    one_at_most : {T : Type 0} (o : Option T) → length (optional o) ≤ 1
    one_at_most None = omega arith
    one_at_most (Some y) = omega arith

-- one fill after another
module _ {T : Type 0} (t : RecordList T) (xs ys : List T) where
  pub room_first : Room t (xs ++ ys) → Room t xs
  room_first h = let k = simp length-append at h.fits in record { fits = omega arith }

  pub room_next : (u : RecordList T) → Room t (xs ++ ys) → Grown t u xs → Room u ys
  room_next u h g =
      let k = simp length-append at h.fits in
      let n = simp length-append at (ap length g.list) in
      let q = g.same_room in
      record { fits = omega arith }

  pub grown_both : (u v : RecordList T) → Grown t u xs → Grown u v ys → Grown t v (xs ++ ys)
  grown_both u v g h = record {
    list = rw (h.list, g.list) (append_assoc (items t) xs ys);
    same_room = h.same_room ∙ g.same_room;
  }
