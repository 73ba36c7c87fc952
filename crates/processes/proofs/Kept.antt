-- A process keeps its class, whatever fronts are taken.
use Rattle.std.proofs.Common.{◌≡◌, ℕ, zero, suc, ◌+◌, ◌<◌, ◌≤◌, Bool, true, false, cond, not, ltb, List, [], ◌∷◌, ◌++◌, map, length, get_or, set, Some, None, sym, refl, ap, ◌∙◌, subst, inl, inr, ⊎_elim, arith}
use Rattle.std.proofs.lemmas.List.{map-append}
use Rattle.std.specs.List.{slice_get, AllByRecursion}
use Rattle.values.specs.declared.kind.Kind.{Kind}
use Rattle.values.specs.declared.kind.Kind.TheVariants.{Boolean}
use Rattle.values.specs.declared.op.Op.{Op}
use Rattle.values.specs.declared.op.Op.TheVariants.{Add, Sub, Mul, Div, Less, Same, And, Or}
use Rattle.values.specs.Ops.{gives, apply}
use Rattle.values.specs.Values.{Val, integer, kind_of}
use Rattle.commands.specs.declared.expression.Leaf.{Leaf}
use Rattle.commands.specs.declared.expression.Leaf.TheVariants.{Int, Bool as BoolL, Iunk, Var}
use Rattle.commands.specs.Depths.{stmt_depth}
use Rattle.commands.specs.Trees.{Expr, leaf, binary, negation, Stmt, skip, assign, send, receive, sequence, select, guard, branch, loop, Declaration, Class}
use Rattle.heads.specs.Exchanges.{exchange}
use Rattle.admission.specs.Conditions.{LeafKept, ExprKept, ExprsKept, StmtKept, HaveKinds, Declares, ClassKept, most_fronts}
use Rattle.processes.specs.Evaluation.{eval, leaf_value}
use Rattle.processes.specs.Fronts.{Action, internal, sends, receives, Front, front, is_true, is_false, offered, behind, fronts, process_fronts}
use Rattle.processes.proofs.Behind.{twice, behind_guard, behind_ways}
use Rattle.processes.specs.declared.left.Left.{Left}
use Rattle.processes.specs.Found.{ProcessAt, Standing}
use Rattle.processes.specs.Classes.{Part, HasRoom, ProcessOf, stored, after, Permitted, Brings, PermittedBy, BringsOver, FrontOf, FrontKept, ClassLaws}

-- parts of parts are parts
same : (s : Stmt) → Part s s
same skip = refl
same (assign v e) = refl
same (send c m es) = refl
same (receive c m ws) = refl
same (sequence a b) = inl refl
same (select a b) = inl refl
same (guard e a) = inl refl
same (branch e a b) = inl refl
same (loop e a) = inl refl

below : (w t s : Stmt) → Part w t → Part t s → Part w s
below skip t s p q = subst (λ x. Part x s) p q
below (assign v e) t s p q = subst (λ x. Part x s) p q
below (send c m es) t s p q = subst (λ x. Part x s) p q
below (receive c m ws) t s p q = subst (λ x. Part x s) p q
below (sequence a b) t s p q = ⊎_elim (λ i. subst (λ x. Part x s) i q) (⊎_elim (λ h. inr (inl (below a t s h q))) (λ h. inr (inr (below b t s h q)))) p
below (select a b) t s p q = ⊎_elim (λ i. subst (λ x. Part x s) i q) (⊎_elim (λ h. inr (inl (below a t s h q))) (λ h. inr (inr (below b t s h q)))) p
below (guard e a) t s p q = ⊎_elim (λ i. subst (λ x. Part x s) i q) (λ h. inr (below a t s h q)) p
below (branch e a b) t s p q = ⊎_elim (λ i. subst (λ x. Part x s) i q) (⊎_elim (λ h. inr (inl (below a t s h q))) (λ h. inr (inr (below b t s h q)))) p
below (loop e a) t s p q = ⊎_elim (λ i. subst (λ x. Part x s) i q) (λ h. inr (below a t s h q)) p

module _ (ks : List Kind) (ds : List Declaration) where
  pub part_kept : (w s : Stmt) → StmtKept ks ds w → Part w s → StmtKept ks ds s
  part_kept skip s k p = subst (StmtKept ks ds) (sym p) k
  part_kept (assign v e) s k p = subst (StmtKept ks ds) (sym p) k
  part_kept (send c m es) s k p = subst (StmtKept ks ds) (sym p) k
  part_kept (receive c m ws) s k p = subst (StmtKept ks ds) (sym p) k
  part_kept (sequence a b) s k p = ⊎_elim (λ i. subst (StmtKept ks ds) (sym i) k) (⊎_elim (part_kept a s k.0) (part_kept b s k.1)) p
  part_kept (select a b) s k p = ⊎_elim (λ i. subst (StmtKept ks ds) (sym i) k) (⊎_elim (part_kept a s k.1) (part_kept b s k.2)) p
  part_kept (guard e a) s k p = ⊎_elim (λ i. subst (StmtKept ks ds) (sym i) k) (part_kept a s k.1) p
  part_kept (branch e a b) s k p = ⊎_elim (λ i. subst (StmtKept ks ds) (sym i) k) (⊎_elim (part_kept a s k.1) (part_kept b s k.2)) p
  part_kept (loop e a) s k p = ⊎_elim (λ i. subst (StmtKept ks ds) (sym i) k) (part_kept a s k.1) p

  pub few_fronts : (s : Stmt) → StmtKept ks ds s → most_fronts s ≤ 8
  few_fronts skip k = omega arith
  few_fronts (assign v e) k = omega arith
  few_fronts (send c m es) k = omega arith
  few_fronts (receive c m ws) k = omega arith
  few_fronts (sequence a b) k = few_fronts a k.0
  few_fronts (select a b) k = k.0
  few_fronts (guard e a) k = few_fronts a k.1
  few_fronts (branch e a b) k = omega arith
  few_fronts (loop e a) k = omega arith

-- an expression has its kind
some_is : {k j : Kind} → Some k ≡ Some j → k ≡ j
some_is h = cc h

by_bound : (t : Bool) (k : Kind) → cond t (Some Boolean) None ≡ Some k → Boolean ≡ k
by_bound true k h = some_is h
by_bound false k h = absurd (let z : ◌≡◌ {A = ℕ} 0 1 = cc in omega arith)

pub variable_kind : (vs : List Val) (v : ℕ) (k : Kind) → slice_get (map kind_of vs) v ≡ Some k → kind_of (get_or vs v (integer None)) ≡ k
variable_kind [] v k h = absurd (let z : ◌≡◌ {A = ℕ} 0 1 = cc in omega arith)
variable_kind (x ∷ vs) zero k h = some_is h
variable_kind (x ∷ vs) (suc v) k h = variable_kind vs v k h

leaf_kept : (vs : List Val) (k : Kind) (l : Leaf) → LeafKept (map kind_of vs) k l → kind_of (leaf_value vs l) ≡ k
leaf_kept vs k (Int z) h = some_is h.0
leaf_kept vs k (BoolL b) h = by_bound (ltb b 3) k h
leaf_kept vs k Iunk h = some_is h
leaf_kept vs k (Var v) h = variable_kind vs v k h

pub given : (op : Op) (a b : Val) → kind_of (apply op a b) ≡ gives op
given Add a b = refl
given Sub a b = refl
given Mul a b = refl
given Div a b = refl
given Less a b = refl
given Same a b = refl
given And a b = refl
given Or a b = refl

pub eval_kind : (vs : List Val) (k : Kind) (e : Expr) → ExprKept (map kind_of vs) k e → kind_of (eval e vs) ≡ k
eval_kind vs k (leaf l) h = leaf_kept vs k l h
eval_kind vs k (binary op a b) h = given op (eval a vs) (eval b vs) ∙ h.0
eval_kind vs k (negation a) h = sym h.0

eval_kinds : (vs : List Val) (js : List Kind) (es : List Expr) → ExprsKept (map kind_of vs) js es → map kind_of (map (λ e. eval e vs) es) ≡ js
eval_kinds vs [] [] h = refl
eval_kinds vs [] (e ∷ es) h = absurd h
eval_kinds vs (j ∷ js) [] h = absurd h
eval_kinds vs (j ∷ js) (e ∷ es) h = let p = eval_kind vs j e h.0 in let q = eval_kinds vs js es h.1 in (λ i. p i ∷ q i)

-- stores keep the kinds of variables
set_kinds : (vs : List Val) (v : ℕ) (x : Val) → slice_get (map kind_of vs) v ≡ Some (kind_of x) → map kind_of (set vs v x) ≡ map kind_of vs
set_kinds [] v x h = refl
set_kinds (y ∷ vs) zero x h = let p = some_is (sym h) in (λ i. p i ∷ map kind_of vs)
set_kinds (y ∷ vs) (suc v) x h = let p = set_kinds vs v x h in (λ i. kind_of y ∷ p i)

stored_kinds : (vs : List Val) (ws : List ℕ) (got : List Val) → HaveKinds (map kind_of vs) ws (map kind_of got) → map kind_of (stored vs ws got) ≡ map kind_of vs
stored_kinds vs [] got h = refl
stored_kinds vs (w ∷ ws) [] h = refl
stored_kinds vs (w ∷ ws) (x ∷ got) h =
    let p = set_kinds vs w x h.0 in
    stored_kinds (set vs w x) ws got (subst (λ ks. HaveKinds ks ws (map kind_of got)) (sym p) h.1) ∙ p

-- lists of fronts
pub all_join : (P : Front → Type 0) (xs ys : List Front) → AllByRecursion P xs → AllByRecursion P ys → AllByRecursion P (xs ++ ys)
all_join P [] ys a b = b
all_join P (x ∷ xs) ys a b = (a.0, all_join P xs ys a.1 b)

pub all_guarded : (P : Front → Type 0) (t : Bool) (xs : List Front) → AllByRecursion P xs → AllByRecursion P (cond t xs [])
all_guarded P true xs a = a
all_guarded P false xs a = tt

pub all_offered : (P : Front → Type 0) (t : Bool) (x : Front) → P x → AllByRecursion P (offered t x)
all_offered P true x p = (p, tt)
all_offered P false x p = tt

-- statements that are closed under their parts, and keep kinds and declarations
module _ (ks : List Kind) (ds : List Declaration) (vs : List Val) (kinds : map kind_of vs ≡ ks) (Own : Stmt → Type 0) (own_kept : (s : Stmt) → Own s → StmtKept ks ds s) (own : (t s : Stmt) → Own t → Part t s → Own s) where
  record Fits (x : Front) : Type 0 where
    permitted : PermittedBy ks ds x.does
    goes_on : (got : List Val) → BringsOver ks x.does got → map kind_of (after x.variables x.does got) ≡ ks
    leaves_own : AllByRecursion Own x.leaves
    room : HasRoom x.leaves
    numbered : x.number < 8

  after_kinds : (us : List Val) (a : Action) (got : List Val) → map kind_of us ≡ ks → BringsOver ks a got → map kind_of (after us a got) ≡ ks
  after_kinds us internal got e b = e
  after_kinds us (sends channel message xs) got e b = e
  after_kinds us (receives channel message ws) got e b = stored_kinds us ws got (subst (λ js. HaveKinds js ws (map kind_of got)) (sym e) b) ∙ e

  one : (n : ℕ) (a : Action) (us : List Val) (l : List Stmt) → n < 8 → PermittedBy ks ds a → map kind_of us ≡ ks → AllByRecursion Own l → HasRoom l → Fits (front n a us l)
  one n a us l h p e q r = record { permitted = p; goes_on = λ got b. after_kinds us a got e b; leaves_own = q; room = r; numbered = h }

  two : (v : Val) (n : ℕ) (x y : List Stmt) → n + 2 ≤ 8 → AllByRecursion Own x → HasRoom x → AllByRecursion Own y → HasRoom y → AllByRecursion Fits (offered (not (is_false v)) (front n internal vs x) ++ offered (not (is_true v)) (front (n + 1) internal vs y))
  two v n x y h p r q t =
      all_join Fits _ _
      (all_offered Fits (not (is_false v)) _ (one n internal vs x (omega (arith, h)) tt kinds p r))
      (all_offered Fits (not (is_true v)) _ (one (n + 1) internal vs y (omega (arith, h)) tt kinds q t))

  here_kept : (s : Stmt) → Own s → StmtKept (map kind_of vs) ds s
  here_kept s p = subst (λ js. StmtKept js ds s) (sym kinds) (own_kept s p)

  fronts_fit : (n : ℕ) (s : Stmt) (rest : List Stmt) → n + most_fronts s ≤ 8 → Own s → AllByRecursion Own rest → HasRoom (s ∷ rest) → AllByRecursion Fits (map (behind rest) (fronts vs n s))
  fronts_fit n skip rest h p q r = (one n internal vs rest (omega (arith, h)) tt kinds q r.1, tt)
  fronts_fit n (assign v e) rest h p q r =
      let k = here_kept (assign v e) p in
      let is : slice_get (map kind_of vs) v ≡ Some (kind_of (eval e vs)) = k.1 ∙ ap (λ j. Some j) (sym (eval_kind vs k.0 e k.2)) in
      (one n internal (set vs v (eval e vs)) rest (omega (arith, h)) tt (set_kinds vs v (eval e vs) is ∙ kinds) q r.1, tt)
  fronts_fit n (send channel message es) rest h p q r =
      let k = here_kept (send channel message es) p in
      let declared = subst (λ js. Declares ds (exchange false channel message js)) (sym (eval_kinds vs k.1.0 es k.1.1)) k.1.2 in
      (one n (sends channel message (map (λ e. eval e vs) es)) vs rest (omega (arith, h)) declared kinds q r.1, tt)
  fronts_fit n (receive channel message ws) rest h p q r =
      let k = here_kept (receive channel message ws) p in
      (one n (receives channel message ws) vs rest (omega (arith, h)) (k.2.0, subst (λ js. HaveKinds js ws k.2.0) kinds k.2.1, k.2.2) kinds q r.1, tt)
  fronts_fit n (sequence a b) rest h p q r =
      subst (AllByRecursion Fits) (sym (twice (b ∷ []) rest (fronts vs n a))) (fronts_fit n a (b ∷ rest) h (own (sequence a b) a p (inr (inl (same a)))) (own (sequence a b) b p (inr (inr (same b))), q) (omega (arith, r.0), (omega (arith, r.0), r.1)))
  fronts_fit n (select a b) rest h p q r =
      subst (AllByRecursion Fits) (sym (map-append (behind rest) (fronts vs n a) (fronts vs (n + most_fronts a) b))) (all_join Fits _ _
      (fronts_fit n a rest (omega (arith, h)) (own (select a b) a p (inr (inl (same a)))) q (omega (arith, r.0), r.1))
      (fronts_fit (n + most_fronts a) b rest (omega (arith, h)) (own (select a b) b p (inr (inr (same b)))) q (omega (arith, r.0), r.1)))
  fronts_fit n (guard e a) rest h p q r =
      subst (AllByRecursion Fits) (sym (behind_guard rest (is_true (eval e vs)) (fronts vs n a))) (all_guarded Fits (is_true (eval e vs)) _ (fronts_fit n a rest h (own (guard e a) a p (inr (same a))) q (omega (arith, r.0), r.1)))
  fronts_fit n (branch e a b) rest h p q r =
      subst (AllByRecursion Fits) (sym (behind_ways rest _ _ (front n internal vs (a ∷ [])) (front (n + 1) internal vs (b ∷ [])))) (two (eval e vs) n (a ∷ rest) (b ∷ rest) h
      (own (branch e a b) a p (inr (inl (same a))), q) (omega (arith, r.0), r.1)
      (own (branch e a b) b p (inr (inr (same b))), q) (omega (arith, r.0), r.1))
  fronts_fit n (loop e a) rest h p q r =
      subst (AllByRecursion Fits) (sym (behind_ways rest _ _ (front n internal vs (a ∷ loop e a ∷ [])) (front (n + 1) internal vs []))) (two (eval e vs) n (a ∷ loop e a ∷ rest) rest h
      (own (loop e a) a p (inr (same a)), (p, q)) (omega (arith, r.0), (r.0, r.1))
      q r.1)

  left_fits : (left : List Stmt) → AllByRecursion Own left → HasRoom left → AllByRecursion Fits (process_fronts vs left)
  left_fits [] q r = tt
  left_fits (s ∷ rest) q r = fronts_fit 0 s rest (omega (arith, few_fronts _ _ s (here_kept s q.0))) q.0 q.1 r

all_map : {A : Type 0} (P Q : A → Type 0) → ((x : A) → P x → Q x) → (xs : List A) → AllByRecursion P xs → AllByRecursion Q xs
all_map P Q f [] a = tt
all_map P Q f (x ∷ xs) a = (f x a.0, all_map P Q f xs a.1)

-- over the kinds and declarations of a class, and in a process of it
pub permitted_in : (c : Class) (a : Action) → PermittedBy (map kind_of c.variables) c.declarations a → Permitted c a
permitted_in c internal p = p
permitted_in c (sends channel message xs) p = p
permitted_in c (receives channel message ws) p = p

pub permitted_by : (c : Class) (a : Action) → Permitted c a → PermittedBy (map kind_of c.variables) c.declarations a
permitted_by c internal p = p
permitted_by c (sends channel message xs) p = p
permitted_by c (receives channel message ws) p = p

pub brings_in : (c : Class) (a : Action) (got : List Val) → BringsOver (map kind_of c.variables) a got → Brings c a got
brings_in c internal got b = b
brings_in c (sends channel message xs) got b = b
brings_in c (receives channel message ws) got b = b

pub brings_over : (c : Class) (a : Action) (got : List Val) → Brings c a got → BringsOver (map kind_of c.variables) a got
brings_over c internal got b = b
brings_over c (sends channel message xs) got b = b
brings_over c (receives channel message ws) got b = b

class_fronts : (c : Class) (vs : List Val) (left : List Stmt) → ClassKept c → ProcessOf c vs left → AllByRecursion (FrontOf c) (process_fronts vs left)
class_fronts c vs left k p =
    let ks = map kind_of c.variables in
    let Own : Stmt → Type 0 = Part c.statement in
    let fitting = left_fits ks c.declarations vs p.kinds Own (λ s. part_kept ks c.declarations c.statement s k.statement_kept) (below c.statement) left p.parts p.room in
    all_map _ (FrontOf c) (λ x h. record { permitted = permitted_in c x.does h.permitted; goes_on = λ got b. record { kinds = h.goes_on got (brings_over c x.does got b); parts = h.leaves_own; room = h.room }; numbered = h.numbered }) _ fitting

kept_fronts : (ks : List Kind) (ds : List Declaration) (vs : List Val) (left : List Stmt) → map kind_of vs ≡ ks → AllByRecursion (StmtKept ks ds) left → HasRoom left → AllByRecursion (FrontKept ks ds) (process_fronts vs left)
kept_fronts ks ds vs left e q r =
    all_map _ (FrontKept ks ds) (λ x h. record { permitted = h.permitted; kinds = h.goes_on; leaves_kept = h.leaves_own; room = h.room; numbered = h.numbered }) _
    (left_fits ks ds vs e (StmtKept ks ds) (λ s h. h) (part_kept ks ds) left q r)

pub some_deep : (s : Stmt) → 1 ≤ stmt_depth s
some_deep skip = omega arith
some_deep (assign v e) = omega arith
some_deep (send c m es) = omega arith
some_deep (receive c m ws) = omega arith
some_deep (sequence a b) = omega arith
some_deep (select a b) = omega arith
some_deep (guard e a) = omega arith
some_deep (branch e a b) = omega arith
some_deep (loop e a) = omega arith

few : (left : List Stmt) → HasRoom left → length left ≤ 32
few [] r = omega arith
few (s ∷ rest) r = omega (arith, r.0, some_deep s)

pub class_laws : ClassLaws
class_laws = record {
  fresh = λ c k. record { kinds = refl; parts = (same c.statement, tt); room = (omega (arith, k.statement_deep), tt) };
  fronts_kept = class_fronts;
  statements_kept = kept_fronts;
  few = λ c vs left p. few left p.room;
  few_left = few;
}

pub process_stands : (f : List ℕ) (left : Left) (vs : List Val) (c : Class) (ss : List Stmt) → ProcessAt f left vs c ss → Standing f left (map kind_of c.variables) c.declarations ss
process_stands f left vs c ss h = record {
  short = h.short;
  places = h.places;
  kept = all_map (Part c.statement) _ (λ s. part_kept _ _ c.statement s h.class_kept.statement_kept) ss h.of_class.parts;
  room = h.of_class.room;
}
