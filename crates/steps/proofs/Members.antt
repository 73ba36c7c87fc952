-- What stands in a list.
use Rattle.std.proofs.Common.{◌≡◌, ℕ, zero, suc, ◌⊎◌, List, [], ◌∷◌, ◌++◌, map, set, Some, sym, refl, ap, subst, inl, inr, ⊎_elim, arith}
use Rattle.std.specs.List.{flat_map, slice_get, AllByRecursion}

abbrev pub In : {A : Type 0} → A → List A → Type 0
In x [] = ⊥
In x (y ∷ ys) = (x ≡ y) ⊎ In x ys

module _ {A : Type 0} where
  pub in_left : (x : A) (xs ys : List A) → In x xs → In x (xs ++ ys)
  in_left x [] ys h = absurd h
  in_left x (y ∷ xs) ys h = ⊎_elim (λ e. inl e) (λ k. inr (in_left x xs ys k)) h

  pub in_right : (x : A) (xs ys : List A) → In x ys → In x (xs ++ ys)
  in_right x [] ys h = h
  in_right x (y ∷ xs) ys h = inr (in_right x xs ys h)

  pub in_either : (x : A) (xs ys : List A) → In x (xs ++ ys) → In x xs ⊎ In x ys
  in_either x [] ys h = inr h
  in_either x (y ∷ xs) ys h = ⊎_elim (λ e. inl (inl e)) (λ k. ⊎_elim (λ l. inl (inr l)) (λ r. inr r) (in_either x xs ys k)) h

  pub in_place : (x : A) (xs : List A) → In x xs → (i : ℕ) × (slice_get xs i ≡ Some x)
  in_place x [] h = absurd h
  in_place x (y ∷ xs) h = ⊎_elim (λ e. (0, ap (λ z. Some z) (sym e))) (λ k. let p = in_place x xs k in (suc p.0, p.1)) h

  pub place_in : (x : A) (xs : List A) (i : ℕ) → slice_get xs i ≡ Some x → In x xs
  place_in x [] i h = absurd (let z : ◌≡◌ {A = ℕ} 0 1 = cc in omega arith)
  place_in x (y ∷ xs) zero h = inl (let e : x ≡ y = cc in e)
  place_in x (y ∷ xs) (suc i) h = inr (place_in x xs i h)

  pub none_empty : (xs : List A) → ((x : A) → In x xs → ⊥) → xs ≡ []
  none_empty [] h = refl
  none_empty (x ∷ xs) h = absurd (h x (inl refl))

  pub empty_none : (x : A) (xs : List A) → xs ≡ [] → In x xs → ⊥
  empty_none x xs e h = subst (In x) e h

  -- what holds of each
  module _ (P : A → Type 0) where
    pub all_in : (xs : List A) → AllByRecursion P xs → (x : A) → In x xs → P x
    all_in [] a x h = absurd h
    all_in (y ∷ xs) a x h = ⊎_elim (λ e. subst P (sym e) a.0) (all_in xs a.1 x) h

    pub all_from : (xs : List A) → ((x : A) → In x xs → P x) → AllByRecursion P xs
    all_from [] f = tt
    all_from (x ∷ xs) f = (f x (inl refl), all_from xs (λ y h. f y (inr h)))

    pub all_set : (xs : List A) (i : ℕ) (x : A) → AllByRecursion P xs → P x → AllByRecursion P (set xs i x)
    all_set [] i x a h = tt
    all_set (y ∷ xs) zero x a h = (h, a.1)
    all_set (y ∷ xs) (suc i) x a h = (a.0, all_set xs i x a.1 h)

module _ {X A : Type 0} (f : X → List A) where
  pub in_joined : (s : A) (xs : List X) → In s (flat_map f xs) → (x : X) × In x xs × In s (f x)
  in_joined s [] h = absurd h
  in_joined s (x ∷ xs) h = ⊎_elim (λ k. (x, inl refl, k)) (λ k. let p = in_joined s xs k in (p.0, inr p.1, p.2)) (in_either s (f x) (flat_map f xs) h)

  pub joined_in : (s : A) (x : X) (xs : List X) → In x xs → In s (f x) → In s (flat_map f xs)
  joined_in s x [] h k = absurd h
  joined_in s x (y ∷ xs) h k =
      ⊎_elim (λ e. in_left s (f y) (flat_map f xs) (subst (λ z. In s (f z)) e k)) (λ l. in_right s (f y) (flat_map f xs) (joined_in s x xs l k)) h

module _ {X A : Type 0} (f : X → A) where
  pub in_map : (y : A) (xs : List X) → In y (map f xs) → (x : X) × In x xs × (y ≡ f x)
  in_map y [] h = absurd h
  in_map y (x ∷ xs) h = ⊎_elim (λ e. (x, inl refl, e)) (λ k. let p = in_map y xs k in (p.0, inr p.1, p.2)) h

  pub map_in : (x : X) (xs : List X) → In x xs → In (f x) (map f xs)
  map_in x [] h = absurd h
  map_in x (y ∷ xs) h = ⊎_elim (λ e. inl (ap f e)) (λ k. inr (map_in x xs k)) h

-- a list without repetition, where the same is told by a relation
abbrev pub Apart : {A : Type 0} → (A → A → Type 0) → List A → Type 0
Apart R [] = Unit {0}
Apart R (x ∷ xs) = ((y : _) → In y xs → R x y → ⊥) × Apart R xs

module _ {A : Type 0} where
  pub apart_append : (R : A → A → Type 0) (xs ys : List A) → Apart R xs → Apart R ys → ((x y : A) → In x xs → In y ys → R x y → ⊥) → Apart R (xs ++ ys)
  apart_append R [] ys p q d = q
  apart_append R (x ∷ xs) ys p q d =
      (λ y h r. ⊎_elim (λ k. p.0 y k r) (λ k. d x y (inl refl) k r) (in_either y xs ys h), apart_append R xs ys p.1 q (λ a b h k r. d a b (inr h) k r))

  abbrev pub Same : A → A → Type 0
  Same x y = x ≡ y

  pub apart_places : (xs : List A) → Apart Same xs → (i j : ℕ) (x : A) → slice_get xs i ≡ Some x → slice_get xs j ≡ Some x → i ≡ j
  apart_places [] a i j x p q = absurd (let z : ◌≡◌ {A = ℕ} 0 1 = cc in omega arith)
  apart_places (y ∷ xs) a zero zero x p q = refl
  apart_places (y ∷ xs) a zero (suc j) x p q = let e : y ≡ x = cc in absurd (a.0 x (place_in x xs j q) e)
  apart_places (y ∷ xs) a (suc i) zero x p q = let e : y ≡ x = cc in absurd (a.0 x (place_in x xs i p) e)
  apart_places (y ∷ xs) a (suc i) (suc j) x p q = ap suc (apart_places xs a.1 i j x p q)

-- lists joined over elements that do not repeat, each of which can be told from what its list has
pub apart_joined : {X A : Type 0} (R : X → X → Type 0) (f : X → List A) → ((x : X) → Apart Same (f x)) → ((s : A) (x y : X) → In s (f x) → In s (f y) → R x y) → (xs : List X) → Apart R xs → Apart Same (flat_map f xs)
apart_joined R f each same [] a = tt
apart_joined R f each same (x ∷ xs) a =
    apart_append Same (f x) (flat_map f xs) (each x) (apart_joined R f each same xs a.1)
    (λ s t h k e. let p = in_joined f t xs k in a.0 p.0 p.1 (same t x p.0 (subst (λ z. In z (f x)) e h) p.2))
