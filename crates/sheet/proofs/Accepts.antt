-- The check accepts exactly the prefix forms of the trees that keep the rules.
use Rattle.std.proofs.Common.{◌≡◌, ℕ, zero, suc, ◌+◌, ◌-◌, ◌≤◌, Bool, true, false, cond, ltb, List, [], ◌∷◌, ◌++◌, map, length, drop, Some, None, Ok, Err, Option, sym, refl, ap, ◌∙◌, subst, append_assoc, append-nil, arith, ltb-false, le-ltb}
use Rattle.std.proofs.lemmas.List.{drop_all, length-append, map-append}
use Rattle.std.specs.List.{slice_get}
use Rattle.values.specs.declared.kind.Kind.{Kind}
use Rattle.values.specs.declared.kind.Kind.TheVariants.{Integer, Boolean}
use Rattle.values.specs.declared.op.Op.{Op}
use Rattle.values.specs.declared.op.Op.TheVariants.{Add, Sub, Mul, Div, Less, Same, And, Or}
use Rattle.values.specs.Kinds.{awaited, same_kind}
use Rattle.values.specs.Ops.{part_kind, gives}
use Rattle.values.specs.Values.{kind_of}
use Rattle.sheet.specs.declared.fault.Expected.{Expected}
use Rattle.sheet.specs.declared.fault.Expected.TheVariants.{End as EndE}
use Rattle.sheet.specs.declared.word.Term.{Term}
use Rattle.sheet.specs.declared.word.Term.TheVariants.{Value, Not, Binary}
use Rattle.values.specs.declared.value.TextFault.TheVariants.{NotAValue, OutOfRange}
use Rattle.sheet.specs.Checks.{check, check_line, parts, known, ask, fault, no_more, Checked, End, ◌>>=◌, ◌>>◌}
use Rattle.sheet.specs.Faults.{expected_of}
use Rattle.sheet.specs.Trees.{Tree, leaf, negation, operation, written, worth, tree_kind, Kinded, depth, size, Stands, Expression, ReadsExpressions}
use Rattle.sheet.specs.Words.{Word, term_kind}
use Rattle.sheet.proofs.Nodes.{stands_value, stands_not, stands_binary}
use Rattle.sheet.proofs.Steps.{check_step}

known_ok : (o : Option Word) (k : Option Kind) (at : ℕ) (t : Term) → known o k at ≡ Ok t → o ≡ Some (Ok t)
known_ok None k at t e = absurd (let z : ◌≡◌ {A = ℕ} 0 1 = cc in omega arith)
known_ok (Some (Err NotAValue)) k at t e = absurd (let z : ◌≡◌ {A = ℕ} 0 1 = cc in omega arith)
known_ok (Some (Err OutOfRange)) k at t e = absurd (let z : ◌≡◌ {A = ℕ} 0 1 = cc in omega arith)
known_ok (Some (Ok u)) k at t e = cc

bind_ok : {A B : Type 0} (x : Checked A) (g : A → Checked B) (v : B) → (x >>= g) ≡ Ok v → (a : A) × (x ≡ Ok a) × (g a ≡ Ok v)
bind_ok (Ok a) g v h = (a, refl, h)
bind_ok (Err x) g v h = absurd (let z : ◌≡◌ {A = ℕ} 0 1 = cc in omega arith)

ask_ok : {B : Type 0} (b : Bool) (at : ℕ) (e : Expected) (y : Checked B) (v : B) → (ask b at e >> y) ≡ Ok v → (b ≡ true) × (y ≡ Ok v)
ask_ok true at e y v h = (refl, h)
ask_ok false at e y v h = absurd (let z : ◌≡◌ {A = ℕ} 0 1 = cc in omega arith)

same_from : (a b : Kind) → same_kind a b ≡ true → b ≡ a
same_from Integer Integer e = refl
same_from Integer Boolean e = absurd (let z : ◌≡◌ {A = ℕ} 0 1 = cc in omega arith)
same_from Boolean Integer e = absurd (let z : ◌≡◌ {A = ℕ} 0 1 = cc in omega arith)
same_from Boolean Boolean e = refl

same_refl : (a : Kind) → same_kind a a ≡ true
same_refl Integer = refl
same_refl Boolean = refl

-- a tree that keeps the rules stands at the place, and the check answered its end and kind
pub record Found (d : ℕ) (ws : List Word) (at : ℕ) (k : Option Kind) (e : End) (t : Tree) : Type 0 where
  pub stands : Stands ws at t
  pub ends : e.0 ≡ at + size t
  pub kind : tree_kind t ≡ e.1
  pub wanted : awaited k e.1 ≡ true
  pub kinds : Kinded t
  pub deep : depth t ≤ d

module _ (d : ℕ) (ws : List Word) (below : (at : ℕ) (k : Option Kind) (e : End) → check d ws at k ≡ Ok e → (t : Tree) × Found d ws at k e t) (at : ℕ) (k : Option Kind) (e : End) where
  from_parts : (t : Term) → slice_get ws at ≡ Some (Ok t) → awaited k (term_kind t) ≡ true → parts (λ p j. check d ws p j) at t ≡ Ok e → (u : Tree) × Found (suc d) ws at k e u
  from_parts (Value r) s a h =
      let p : ◌≡◌ {A = End} (at + 1, term_kind (Value r)) e = cc in
      let q : term_kind (Value r) ≡ e.1 = ap (λ x. x.1) p in
      (leaf r, record { stands = s; ends = sym (ap (λ x. x.0) p); kind = q; wanted = rw q at a; kinds = tt; deep = omega arith })
  from_parts Not s a h =
      let p = bind_ok (check d ws (at + 1) (Some Boolean)) _ e h in
      let f = below (at + 1) (Some Boolean) p.0 p.1 in
      let q : ◌≡◌ {A = End} (p.0.0, Boolean) e = cc p.2 in
      let i : Boolean ≡ e.1 = ap (λ x. x.1) q in
      let n : p.0.0 ≡ e.0 = ap (λ x. x.0) q in (
        negation f.0,
        record {
          stands = (s, f.1.stands);
          ends = omega (arith, n, f.1.ends);
          kind = i;
          wanted = rw i at a;
          kinds = (f.1.kind ∙ same_from Boolean p.0.1 f.1.wanted, f.1.kinds);
          deep = omega (arith, f.1.deep);
        },
      )
  from_parts (Binary op) s a h =
      let p = bind_ok (check d ws (at + 1) (part_kind op)) _ e h in
      let r = bind_ok (check d ws p.0.0 (Some p.0.1)) _ e p.2 in
      let f = below (at + 1) (part_kind op) p.0 p.1 in
      let g = below p.0.0 (Some p.0.1) r.0 r.1 in
      let q : ◌≡◌ {A = End} (r.0.0, gives op) e = cc r.2 in
      let i : gives op ≡ e.1 = ap (λ x. x.1) q in
      let n : r.0.0 ≡ e.0 = ap (λ x. x.0) q in
      let w = f.1.kind in (
        operation op f.0 g.0,
        record {
          stands = (s, f.1.stands, subst (λ m. Stands ws m g.0) f.1.ends g.1.stands);
          ends = omega (arith, n, f.1.ends, g.1.ends);
          kind = i;
          wanted = rw i at a;
          kinds = (rw w f.1.wanted, g.1.kind ∙ same_from p.0.1 r.0.1 g.1.wanted ∙ sym w, f.1.kinds, g.1.kinds);
          deep = omega (arith, f.1.deep, g.1.deep);
        },
      )

pub sound_part : (d : ℕ) (ws : List Word) (at : ℕ) (k : Option Kind) (e : End) → check d ws at k ≡ Ok e → (t : Tree) × Found d ws at k e t
unfolding check
sound_part zero ws at k e h = let p = bind_ok (known (slice_get ws at) k at) _ e h in let w = p.2 in absurd (let z : ◌≡◌ {A = ℕ} 0 1 = cc in omega arith)
sound_part (suc d) ws at k e h =
    let p = bind_ok (known (slice_get ws at) k at) _ e h in
    let q = ask_ok (awaited k (term_kind p.0)) at (expected_of k) _ e p.2 in
    from_parts d ws (λ at' k' e'. sound_part d ws at' k' e') at k e p.0 (known_ok (slice_get ws at) k at p.0 p.1) q.0 q.1

known_at : (ws : List Word) (at : ℕ) (k : Option Kind) (t : Term) → slice_get ws at ≡ Some (Ok t) → Ok t ≡ known (slice_get ws at) k at
known_at ws at k t e = rw e

pub complete_part : (t : Tree) (d : ℕ) (ws : List Word) (at : ℕ) (k : Option Kind) → Stands ws at t → Kinded t → awaited k (tree_kind t) ≡ true → depth t ≤ d → check d ws at k ≡ Ok (at + size t, tree_kind t)
complete_part (leaf r) d ws at k s c a n =
    rw (check_step d ws at k (Value r) (omega arith) (known_at ws at k (Value r) s), a)
complete_part (negation t) d ws at k s c a n =
    let only : check (d - 1) ws (at + 1) (Some Boolean) ≡ Ok (at + 1 + size t, tree_kind t) = complete_part t (d - 1) ws (at + 1) (Some Boolean) s.1 c.1 (ap (same_kind Boolean) c.0) (omega arith) in
    let long : at + 1 + size t ≡ at + (1 + size t) = omega arith in
    rw (check_step d ws at k Not (omega arith) (known_at ws at k Not s.0), a, only, long)
complete_part (operation op t u) d ws at k s c a n =
    let first : check (d - 1) ws (at + 1) (part_kind op) ≡ Ok (at + 1 + size t, tree_kind t) = complete_part t (d - 1) ws (at + 1) (part_kind op) s.1 c.2 c.0 (omega arith) in
    let second : check (d - 1) ws (at + 1 + size t) (Some (tree_kind t)) ≡ Ok (at + 1 + size t + size u, tree_kind u) = complete_part u (d - 1) ws (at + 1 + size t) (Some (tree_kind t)) s.2 c.3 (ap (same_kind (tree_kind t)) c.1 ∙ same_refl (tree_kind t)) (omega arith) in
    let long : at + 1 + size t + size u ≡ at + (1 + size t + size u) = omega arith in
    rw (check_step d ws at k (Binary op) (omega arith) (known_at ws at k (Binary op) s.0), a, first, second, long)

-- a word at a place, and what follows it
nth_drop : {A : Type 0} (xs : List A) (i : ℕ) (x : A) → slice_get xs i ≡ Some x → drop i xs ≡ x ∷ drop (i + 1) xs
nth_drop [] i x e = absurd (let z : ◌≡◌ {A = ℕ} 0 1 = cc in omega arith)
nth_drop (y ∷ xs) zero x e = let p : y ≡ x = cc in ap (λ w. w ∷ xs) p
nth_drop (y ∷ xs) (suc i) x e = let n : suc (i + 1) ≡ suc i + 1 = omega arith in nth_drop xs i x e ∙ ap (λ m. x ∷ drop m (y ∷ xs)) n

drop_nth : {A : Type 0} (xs : List A) (i : ℕ) (x : A) (rest : List A) → drop i xs ≡ x ∷ rest → (slice_get xs i ≡ Some x) × (drop (i + 1) xs ≡ rest)
drop_nth [] zero x rest e = absurd (let z : ◌≡◌ {A = ℕ} 0 1 = cc in omega arith)
drop_nth [] (suc i) x rest e = absurd (let z : ◌≡◌ {A = ℕ} 0 1 = cc in omega arith)
drop_nth (y ∷ xs) zero x rest e = let p : y ≡ x = cc in let q : xs ≡ rest = cc in (ap Some p, q)
drop_nth (y ∷ xs) (suc i) x rest e =
    let p = drop_nth xs i x rest e in
    let n : suc i + 1 ≡ suc (i + 1) = omega arith in
    (p.0, ap (λ m. drop m (y ∷ xs)) n ∙ p.1)

abbrev words_of : Tree → List Word
words_of t = map (λ x. Ok x) (written t)

words_two : (op : Op) (a b : Tree) (rest : List Word) → words_of (operation op a b) ++ rest ≡ Ok (Binary op) ∷ (words_of a ++ (words_of b ++ rest))
words_two op a b rest = ap (λ l. Ok (Binary op) ∷ (l ++ rest)) (map-append (λ x. Ok x) (written a) (written b)) ∙ ap (λ l. Ok (Binary op) ∷ l) (append_assoc (words_of a) (words_of b) rest)

stands_words : (t : Tree) (ws : List Word) (at : ℕ) → Stands ws at t → drop at ws ≡ words_of t ++ drop (at + size t) ws
stands_words (leaf r) ws at s = nth_drop ws at _ s
stands_words (negation a) ws at s =
    let long : at + 1 + size a ≡ at + (1 + size a) = omega arith in
    nth_drop ws at _ s.0 ∙ ap (λ l. Ok Not ∷ l) (stands_words a ws (at + 1) s.1 ∙ ap (λ n. words_of a ++ drop n ws) long)
stands_words (operation op a b) ws at s =
    let long : at + 1 + size a + size b ≡ at + (1 + size a + size b) = omega arith in
    nth_drop ws at _ s.0
    ∙ ap (λ l. Ok (Binary op) ∷ l) (stands_words a ws (at + 1) s.1 ∙ ap (λ l. words_of a ++ l) (stands_words b ws (at + 1 + size a) s.2 ∙ ap (λ n. words_of b ++ drop n ws) long))
    ∙ sym (words_two op a b (drop (at + (1 + size a + size b)) ws))

words_stand : (t : Tree) (ws : List Word) (at : ℕ) (rest : List Word) → drop at ws ≡ words_of t ++ rest → Stands ws at t × (drop (at + size t) ws ≡ rest)
words_stand (leaf r) ws at rest e = drop_nth ws at _ rest e
words_stand (negation a) ws at rest e =
    let p = drop_nth ws at _ _ e in
    let q = words_stand a ws (at + 1) rest p.1 in
    let long : at + (1 + size a) ≡ at + 1 + size a = omega arith in
    ((p.0, q.0), ap (λ n. drop n ws) long ∙ q.1)
words_stand (operation op a b) ws at rest e =
    let p = drop_nth ws at (Ok (Binary op)) (words_of a ++ (words_of b ++ rest)) (e ∙ words_two op a b rest) in
    let q = words_stand a ws (at + 1) (words_of b ++ rest) p.1 in
    let r = words_stand b ws (at + 1 + size a) rest q.1 in
    let long : at + (1 + size a + size b) ≡ at + 1 + size a + size b = omega arith in
    ((p.0, q.0, r.0), ap (λ n. drop n ws) long ∙ r.1)

-- a whole line
pub whole_stands : (t : Tree) (ws : List Word) → ws ≡ words_of t → Stands ws 0 t
whole_stands t ws e = (words_stand t ws 0 [] (e ∙ sym (append-nil (words_of t)))).0

size_written : (t : Tree) → length (words_of t) ≡ size t
size_written (leaf r) = refl
size_written (negation a) = ap (λ n. suc n) (size_written a) ∙ omega arith
size_written (operation op a b) =
    let two : length (words_of a ++ (words_of b ++ [])) ≡ size a + size b = simp (length-append, append-nil) (omega (arith, size_written a, size_written b)) in
    ap length (sym (append-nil (words_of (operation op a b))) ∙ words_two op a b []) ∙ omega (arith, two)

line_ok : (b : Bool) (x : Checked Kind) (j k : Kind) (e : End) → cond b (Err (fault e.0 EndE)) (Ok j) ≡ Ok k → (b ≡ false) × (j ≡ k)
line_ok true x j k e h = absurd (let z : ◌≡◌ {A = ℕ} 0 1 = cc in omega arith)
line_ok false x j k e h = (refl, cc)

sound : (ws : List Word) (k : Kind) → check_line ws ≡ Ok k → (t : Tree) × Expression ws k t
sound ws k h =
    let p = bind_ok (check 32 ws 0 None) (no_more ws) k h in
    let f = sound_part 32 ws 0 None p.0 p.1 in
    let q = line_ok (ltb p.0.0 (length ws)) (Ok k) p.0.1 k p.0 p.2 in
    let past : length ws ≤ 0 + size f.0 = omega (arith, ltb-false p.0.0 (length ws) q.0, f.1.ends) in (
      f.0,
      record {
        words = stands_words f.0 ws 0 f.1.stands ∙ ap (λ l. words_of f.0 ++ l) (drop_all (0 + size f.0) ws past) ∙ append-nil (words_of f.0);
        kinds = f.1.kinds;
        kind = f.1.kind ∙ q.1;
        deep = f.1.deep;
      },
    )

complete : (ws : List Word) (k : Kind) (t : Tree) → Expression ws k t → check_line ws ≡ Ok k
complete ws k t x =
    let part : check 32 ws 0 None ≡ Ok (0 + size t, tree_kind t) = complete_part t 32 ws 0 None (whole_stands t ws x.words) x.kinds refl x.deep in
    let long : length ws ≡ size t = ap length x.words ∙ size_written t in
    let past : ltb (0 + size t) (length ws) ≡ false = le-ltb (0 + size t) (length ws) (omega (arith, long)) in
    rw (part, past, x.kind)

stands_one : (t u : Tree) (ws : List Word) (at : ℕ) → Stands ws at t → Stands ws at u → t ≡ u
stands_one (leaf r) u ws at s v = sym (stands_value ws at r s u v)
stands_one (negation a) u ws at s v =
    let p = stands_not ws at s.0 u v in
    ap negation (stands_one a p.0 ws (at + 1) s.1 p.2) ∙ sym p.1
stands_one (operation op a b) u ws at s v =
    let p = stands_binary ws at op s.0 u v in
    let first = stands_one a p.0 ws (at + 1) s.1 p.3 in
    let second = stands_one b p.1 ws (at + 1 + size a) s.2 (subst (λ x. Stands ws (at + 1 + size x) p.1) (sym first) p.4) in
    ap (λ x. operation op x b) first ∙ ap (operation op p.0) second ∙ sym p.2

one : (t u : Tree) → written t ≡ written u → t ≡ u
one t u e = stands_one t u (words_of t) 0 (whole_stands t (words_of t) refl) (whole_stands u (words_of t) (ap (map (λ x. Ok x)) e))

kind_kept : (t : Tree) → kind_of (worth t) ≡ tree_kind t
kind_kept (leaf r) = refl
kind_kept (negation a) = refl
kind_kept (operation Add a b) = refl
kind_kept (operation Sub a b) = refl
kind_kept (operation Mul a b) = refl
kind_kept (operation Div a b) = refl
kind_kept (operation Less a b) = refl
kind_kept (operation Same a b) = refl
kind_kept (operation And a b) = refl
kind_kept (operation Or a b) = refl

pub reads_expressions : ReadsExpressions
reads_expressions = record { sound = sound; complete = complete; one = one; kind_kept = kind_kept }
