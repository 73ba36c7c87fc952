-- The tests of SEND and RECV: declarations, variables that exist and differ, unused ones.
use Rattle.std.proofs.Common.{◌≡◌, ℕ, zero, suc, ◌-◌, ◌<◌, ◌≤◌, Bool, true, false, not, ◌&&◌, ◌||◌, eqb, ltb, ◌⊎◌, List, [], ◌∷◌, ◌++◌, length, take, drop, replicate, Some, sym, refl, ap, ◌∙◌, inl, inr, arith, ltb-true, lt-ltb, eq-eqb, eqb-true}
use Rattle.std.proofs.lemmas.List.{length-take-le, length-drop, take-append-drop, take_at, drop_at}
use Rattle.std.specs.List.{slice_get}
use Rattle.values.specs.declared.kind.Kind.{Kind}
use Rattle.values.specs.Kinds.{same_kind}
use Rattle.values.specs.Values.{same_truths}
use Rattle.commands.specs.Bytes.{padded}
use Rattle.commands.specs.Trees.{Declaration}
use Rattle.files.specs.Statements.{exchange_fits, member, distinct, all_below, all_unused, variables_fit, kinds_of}
use Rattle.heads.specs.Exchanges.{same_kinds, same_declaration, declared, exchange}
use Rattle.admission.specs.Conditions.{Declares, Differ, HaveKinds, ExchangeKept}
use Rattle.admission.proofs.Oks.{both_true, same_from, same_refl}

pub same_kinds_from : (ks ls : List Kind) → same_kinds ks ls ≡ true → ks ≡ ls
same_kinds_from [] [] e = refl
same_kinds_from [] (l ∷ ls) e = absurd (let z : ◌≡◌ {A = ℕ} 0 1 = cc in omega arith)
same_kinds_from (k ∷ ks) [] e = absurd (let z : ◌≡◌ {A = ℕ} 0 1 = cc in omega arith)
same_kinds_from (k ∷ ks) (l ∷ ls) e =
    let p = both_true (same_kind k l) (same_kinds ks ls) e in
    let q = same_from k l p.0 in
    let r = same_kinds_from ks ls p.1 in cc

pub same_kinds_refl : (ks : List Kind) → same_kinds ks ks ≡ true
same_kinds_refl [] = refl
same_kinds_refl (k ∷ ks) = rw (same_refl k, same_kinds_refl ks)

same_truths_from : (a b : Bool) → same_truths a b ≡ true → a ≡ b
same_truths_from true b e = sym e
same_truths_from false true e = absurd (let z : ◌≡◌ {A = ℕ} 0 1 = cc in omega arith)
same_truths_from false false e = refl

same_truths_refl : (a : Bool) → same_truths a a ≡ true
same_truths_refl true = refl
same_truths_refl false = refl

pub same_fields : (a b : Bool) (c d m n : ℕ) (ks ls : List Kind) → a ≡ b → c ≡ d → m ≡ n → ks ≡ ls → exchange a c m ks ≡ exchange b d n ls
same_fields a b c d m n ks ls p q r s = cc

same_declaration_from : (d e : Declaration) → same_declaration d e ≡ true → d ≡ e
same_declaration_from d e h =
    let p = both_true (same_truths d.receives e.receives && eqb d.channel e.channel && eqb d.message e.message) (same_kinds d.kinds e.kinds) h in
    let q = both_true (same_truths d.receives e.receives && eqb d.channel e.channel) (eqb d.message e.message) p.0 in
    let r = both_true (same_truths d.receives e.receives) (eqb d.channel e.channel) q.0 in
    same_fields d.receives e.receives d.channel e.channel d.message e.message d.kinds e.kinds (same_truths_from _ _ r.0) (eqb-true _ _ r.1) (eqb-true _ _ q.1) (same_kinds_from _ _ p.1)

same_declaration_refl : (d : Declaration) → same_declaration d d ≡ true
same_declaration_refl d = rw (same_truths_refl d.receives, eq-eqb d.channel d.channel refl, eq-eqb d.message d.message refl, same_kinds_refl d.kinds)

either_true : (a b : Bool) → (a || b) ≡ true → (a ≡ true) ⊎ (b ≡ true)
either_true true b h = inl refl
either_true false b h = inr h

second_true : (a b : Bool) → b ≡ true → (a || b) ≡ true
second_true true b h = refl
second_true false b h = h

-- what the class declares
pub declared_sound : (d : Declaration) (ds : List Declaration) → declared d ds ≡ true → Declares ds d
declared_sound d [] h = absurd (let z : ◌≡◌ {A = ℕ} 0 1 = cc in omega arith)
declared_sound d (e ∷ ds) h =
    elim (either_true (same_declaration d e) (declared d ds) h) [
      | inl s ↦ (0, ap (λ x. Some x) (sym (same_declaration_from d e s)))
      | inr r ↦ let p = declared_sound d ds r in (suc p.0, p.1)
    ]

declared_at : (i : ℕ) (d : Declaration) (ds : List Declaration) → slice_get ds i ≡ Some d → declared d ds ≡ true
declared_at i d [] h = absurd (let z : ◌≡◌ {A = ℕ} 0 1 = cc in omega arith)
declared_at zero d (e ∷ ds) h = let p : e ≡ d = cc in rw (p, same_declaration_refl d)
declared_at (suc i) d (e ∷ ds) h = second_true (same_declaration d e) (declared d ds) (declared_at i d ds h)

pub declared_complete : (d : Declaration) (ds : List Declaration) → Declares ds d → declared d ds ≡ true
declared_complete d ds h = declared_at h.0 d ds h.1

-- variables that exist have kinds
nth_some : {A : Type 0} (xs : List A) (i : ℕ) → i < length xs → (x : A) × (slice_get xs i ≡ Some x)
nth_some [] i h = absurd (omega arith)
nth_some (x ∷ xs) zero h = (x, refl)
nth_some (x ∷ xs) (suc i) h = nth_some xs i (omega arith)

nth_within : {A : Type 0} (xs : List A) (i : ℕ) (x : A) → slice_get xs i ≡ Some x → i < length xs
nth_within [] i x h = absurd (let z : ◌≡◌ {A = ℕ} 0 1 = cc in omega arith)
nth_within (y ∷ xs) zero x h = omega arith
nth_within (y ∷ xs) (suc i) x h = let p = nth_within xs i x h in omega arith

pub kinds_sound : (ks : List Kind) (vs : List ℕ) → all_below (length ks) vs ≡ true → HaveKinds ks vs (kinds_of ks vs)
kinds_sound ks [] h = tt
kinds_sound ks (v ∷ vs) h =
    let p = both_true (ltb v (length ks)) (all_below (length ks) vs) h in
    let q = nth_some ks v (ltb-true v (length ks) p.0) in
    let e = q.1 in
    (rw e, kinds_sound ks vs p.1)

pub kinds_complete : (ks : List Kind) (vs : List ℕ) (js : List Kind) → HaveKinds ks vs js → (all_below (length ks) vs ≡ true) × (kinds_of ks vs ≡ js)
kinds_complete ks [] [] h = (refl, refl)
kinds_complete ks [] (j ∷ js) h = absurd h
kinds_complete ks (v ∷ vs) [] h = absurd h
kinds_complete ks (v ∷ vs) (j ∷ js) h =
    let p = kinds_complete ks vs js h.1 in
    let e = h.0 in
    (rw (lt-ltb v (length ks) (nth_within ks v j e), p.0), rw (e, p.1))

-- variables that differ
member_false : (x : ℕ) (xs : List ℕ) (i : ℕ) → member x xs ≡ false → slice_get xs i ≡ Some x → ⊥
member_false x [] i m h = let z : ◌≡◌ {A = ℕ} 0 1 = cc in omega arith
member_false x (y ∷ ys) zero m h = let p : x ≡ y = cc in let e = eq-eqb x y p in let w : ◌≡◌ {A = Bool} true false = sym (rw e) ∙ m in let z : ◌≡◌ {A = ℕ} 0 1 = cc in omega arith
member_false x (y ∷ ys) (suc i) m h = member_false x ys i (second_false (eqb x y) (member x ys) m) h
  where
    second_false : (a b : Bool) → (a || b) ≡ false → b ≡ false
    second_false true b h = absurd (let z : ◌≡◌ {A = ℕ} 0 1 = cc in omega arith)
    second_false false b h = h

member_where : (x : ℕ) (xs : List ℕ) → member x xs ≡ true → (i : ℕ) × (slice_get xs i ≡ Some x)
member_where x [] h = absurd (let z : ◌≡◌ {A = ℕ} 0 1 = cc in omega arith)
member_where x (y ∷ ys) h =
    elim (either_true (eqb x y) (member x ys) h) [
      | inl s ↦ (0, ap (λ z. Some z) (sym (eqb-true x y s)))
      | inr r ↦ let p = member_where x ys r in (suc p.0, p.1)
    ]

not_true_false : (b : Bool) → not b ≡ true → b ≡ false
not_true_false true h = sym h
not_true_false false h = refl

pub distinct_sound : (vs : List ℕ) → distinct vs ≡ true → Differ vs
distinct_sound [] h i j v p q = absurd (let z : ◌≡◌ {A = ℕ} 0 1 = cc in omega arith)
distinct_sound (x ∷ xs) h zero zero v p q = refl
distinct_sound (x ∷ xs) h zero (suc j) v p q =
    let m = both_true (not (member x xs)) (distinct xs) h in
    let e : v ≡ x = cc in
    absurd (member_false x xs j (not_true_false _ m.0) (q ∙ ap (λ z. Some z) e))
distinct_sound (x ∷ xs) h (suc i) zero v p q =
    let m = both_true (not (member x xs)) (distinct xs) h in
    let e : v ≡ x = cc in
    absurd (member_false x xs i (not_true_false _ m.0) (p ∙ ap (λ z. Some z) e))
distinct_sound (x ∷ xs) h (suc i) (suc j) v p q = ap suc (distinct_sound xs (both_true (not (member x xs)) (distinct xs) h).1 i j v p q)

absent : (x : ℕ) (xs : List ℕ) → Differ (x ∷ xs) → (b : Bool) → member x xs ≡ b → b ≡ false
absent x xs d false e = refl
absent x xs d true e = let p = member_where x xs e in let w : ◌≡◌ {A = ℕ} 0 (suc p.0) = d 0 (suc p.0) x refl p.1 in absurd (omega arith)

pub distinct_complete : (vs : List ℕ) → Differ vs → distinct vs ≡ true
distinct_complete [] d = refl
distinct_complete (x ∷ xs) d =
    let m : member x xs ≡ false = absent x xs d (member x xs) refl in
    let r : distinct xs ≡ true = distinct_complete xs (λ i j v p q. let e : suc i ≡ suc j = d (suc i) (suc j) v p q in omega arith) in
    rw (m, r)

-- unused variables
unused_sound : (vs : List ℕ) → all_unused vs ≡ true → vs ≡ replicate (length vs) 255
unused_sound [] h = refl
unused_sound (v ∷ vs) h =
    let p = both_true (eqb v 255) (all_unused vs) h in
    let q = eqb-true v 255 p.0 in
    let r = unused_sound vs p.1 in
    ap (λ x. x ∷ vs) q ∙ ap (λ xs. 255 ∷ xs) r

unused_complete : (n : ℕ) → all_unused (replicate n 255) ≡ true
unused_complete zero = refl
unused_complete (suc n) = unused_complete n

-- the variables of a RECV
pub record VariablesFound (ks : List Kind) (n : ℕ) (vs : List ℕ) : Type 0 where
  pub count : length (take n vs) ≡ n
  pub all : padded (take n vs) ≡ vs
  pub differ : Differ (take n vs)
  pub kinds : HaveKinds ks (take n vs) (kinds_of ks (take n vs))

pub variables_sound : (ks : List Kind) (n : ℕ) (vs : List ℕ) → length vs ≡ 4 → n ≤ 4 → variables_fit (length ks) n vs ≡ true → VariablesFound ks n vs
variables_sound ks n vs four few h =
    let p = both_true (all_below (length ks) (take n vs) && distinct (take n vs)) (all_unused (drop n vs)) h in
    let q = both_true (all_below (length ks) (take n vs)) (distinct (take n vs)) p.0 in
    let count : length (take n vs) ≡ n = length-take-le n vs (omega (arith, four)) in
    let left : length (drop n vs) ≡ 4 - length (take n vs) = length-drop n vs ∙ omega (arith, four, count) in
    record {
      count = count;
      all = ap (λ m. take n vs ++ replicate m 255) (sym left) ∙ ap (λ l. take n vs ++ l) (sym (unused_sound (drop n vs) p.1)) ∙ take-append-drop n vs;
      differ = distinct_sound (take n vs) q.1;
      kinds = kinds_sound ks (take n vs) q.0;
    }

pub variables_complete : (ks : List Kind) (vs : List ℕ) (js : List Kind) → Differ vs → HaveKinds ks vs js → (variables_fit (length ks) (length vs) (padded vs) ≡ true) × (kinds_of ks (take (length vs) (padded vs)) ≡ js)
variables_complete ks vs js d h =
    let front : take (length vs) (padded vs) ≡ vs = take_at vs (replicate (4 - length vs) 255) (length vs) refl in
    let back : drop (length vs) (padded vs) ≡ replicate (4 - length vs) 255 = drop_at vs (replicate (4 - length vs) 255) (length vs) refl in
    let k = kinds_complete ks vs js h in
    (rw (front, back, k.0, distinct_complete vs d, unused_complete (4 - length vs)), rw (front, k.1))

pub exchange_sound : (c m n : ℕ) → exchange_fits c m n ≡ true → ExchangeKept c m n
exchange_sound c m n h =
    let p = both_true (ltb c 32 && ltb m 255) (ltb n 5) h in
    let q = both_true (ltb c 32) (ltb m 255) p.0 in
    record { channel_kept = ltb-true c 32 q.0; message_kept = ltb-true m 255 q.1; count_kept = omega (arith, ltb-true n 5 p.1) }

pub exchange_complete : (c m n : ℕ) → ExchangeKept c m n → exchange_fits c m n ≡ true
exchange_complete c m n h = let few : n < 5 = omega (arith, h.count_kept) in rw (lt-ltb c 32 h.channel_kept, lt-ltb m 255 h.message_kept, lt-ltb n 5 few)
