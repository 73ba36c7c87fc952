-- What fronts store.
use Rattle.std.proofs.Common.{◌≡◌, ℕ, ◌+◌, ◌-◌, ◌<◌, ◌≤◌, Bool, true, false, cond, not, eqb, ltb, List, [], ◌∷◌, map, Some, None, Option, IfSome, sym, refl, ap, ◌∙◌, subst, arith, lt-ltb, le-ltb}
use Rattle.std.specs.List.{slice_get, AllByRecursion}
use Rattle.values.specs.declared.kind.Kind.{Kind}
use Rattle.values.specs.declared.row.Row.{Row}
use Rattle.values.specs.Rows.{value_of_row}
use Rattle.values.specs.Values.{Val, kind_of}
use Rattle.commands.specs.Trees.{Expr, Stmt, skip, assign, send, receive, sequence, select, guard, branch, loop, Declaration, Class}
use Rattle.admission.specs.Conditions.{StmtKept, ClassKept, most_fronts}
use Rattle.processes.specs.declared.front.Action.{Action as ActionC}
use Rattle.processes.specs.declared.front.Action.TheVariants.{Internal, Store}
use Rattle.processes.specs.declared.front.Front.{Front as FrontC}
use Rattle.processes.specs.declared.left.Left.{Left}
use Rattle.processes.specs.Classes.{ProcessOf}
use Rattle.processes.specs.Evaluation.{eval}
use Rattle.processes.specs.Found.{stored_by, one_front, two_fronts}
use Rattle.processes.specs.Fronts.{Front, front, internal, is_true, is_false, offered, behind, fronts}
use Rattle.processes.specs.Stores.{stores, process_stores, with_stored}
use Rattle.processes.specs.Laws.{Ascend}
use Rattle.processes.proofs.Ascending.{ascend_short}
use Rattle.processes.proofs.Kept.{part_kept, eval_kind, all_join, all_guarded, all_offered}
use Rattle.processes.proofs.Numbered.{numbered}

-- over trees: the variables that a front leaves
module _ (vs : List Val) where
  abbrev Leaves : Stmt → ℕ → Front → Type 0
  Leaves s n x = x.variables ≡ with_stored vs (stores vs s (x.number - n))

  leaves_behind : (rest : List Stmt) (s : Stmt) (n : ℕ) (fs : List Front) → AllByRecursion (Leaves s n) fs → AllByRecursion (Leaves s n) (map (behind rest) fs)
  leaves_behind rest s n [] h = h
  leaves_behind rest s n (x ∷ fs) h = (h.0, leaves_behind rest s n fs h.1)

  -- the fronts of the first part of a SEL, and of the second
  leaves_first : (a b : Stmt) (n from below : ℕ) (fs : List Front) → n ≤ from → below ≤ n + most_fronts a → Ascend from fs below → AllByRecursion (Leaves a n) fs → AllByRecursion (Leaves (select a b) n) fs
  leaves_first a b n from below [] l u k h = h
  leaves_first a b n from below (x ∷ fs) l u k h =
      let bound : x.number + 1 ≤ below = omega (arith, ascend_short (x.number + 1) below fs k.1) in
      let inside : x.number - n < most_fronts a = omega (arith, k.0, l, u, bound) in
      (rw (lt-ltb (x.number - n) (most_fronts a) inside) h.0, leaves_first a b n (x.number + 1) below fs (omega (arith, l, k.0)) u k.1 h.1)

  leaves_second : (a b : Stmt) (n from below : ℕ) (fs : List Front) → n + most_fronts a ≤ from → Ascend from fs below → AllByRecursion (Leaves b (n + most_fronts a)) fs → AllByRecursion (Leaves (select a b) n) fs
  leaves_second a b n from below [] l k h = h
  leaves_second a b n from below (x ∷ fs) l k h =
      let past : most_fronts a ≤ x.number - n = omega (arith, k.0, l) in
      let same : x.number - (n + most_fronts a) ≡ x.number - n - most_fronts a = omega arith in (
        rw (le-ltb (x.number - n) (most_fronts a) past) (subst (λ m. x.variables ≡ with_stored vs (stores vs b m)) same h.0),
        leaves_second a b n (x.number + 1) below fs (omega (arith, l, k.0)) k.1 h.1,
      )

  pub leaves_stored : (n : ℕ) (s : Stmt) → AllByRecursion (Leaves s n) (fronts vs n s)
  leaves_stored n skip = (refl, tt)
  leaves_stored n (assign v e) = (refl, tt)
  leaves_stored n (send c m es) = (refl, tt)
  leaves_stored n (receive c m ws) = (refl, tt)
  leaves_stored n (sequence a b) = leaves_behind (b ∷ []) a n (fronts vs n a) (leaves_stored n a)
  leaves_stored n (select a b) =
      let m = n + most_fronts a in
      all_join (Leaves (select a b) n) (fronts vs n a) (fronts vs m b)
      (leaves_first a b n n m (fronts vs n a) (omega arith) (omega arith) (numbered vs n a) (leaves_stored n a))
      (leaves_second a b n m (m + most_fronts b) (fronts vs m b) (omega arith) (numbered vs m b) (leaves_stored m b))
  leaves_stored n (guard e a) = all_guarded (Leaves a n) (is_true (eval e vs)) (fronts vs n a) (leaves_stored n a)
  leaves_stored n (branch e a b) =
      all_join (Leaves (branch e a b) n) (offered (not (is_false (eval e vs))) (front n internal vs (a ∷ []))) (offered (not (is_true (eval e vs))) (front (n + 1) internal vs (b ∷ [])))
      (all_offered (Leaves (branch e a b) n) (not (is_false (eval e vs))) (front n internal vs (a ∷ [])) refl)
      (all_offered (Leaves (branch e a b) n) (not (is_true (eval e vs))) (front (n + 1) internal vs (b ∷ [])) refl)
  leaves_stored n (loop e a) =
      all_join (Leaves (loop e a) n) (offered (not (is_false (eval e vs))) (front n internal vs (a ∷ loop e a ∷ []))) (offered (not (is_true (eval e vs))) (front (n + 1) internal vs []))
      (all_offered (Leaves (loop e a) n) (not (is_false (eval e vs))) (front n internal vs (a ∷ loop e a ∷ [])) refl)
      (all_offered (Leaves (loop e a) n) (not (is_true (eval e vs))) (front (n + 1) internal vs []) refl)

-- a statement that keeps kinds stores a value of its variable's kind
module _ (vs : List Val) (ds : List Declaration) where
  abbrev Fits : Option (ℕ × Val) → Type 0
  Fits o = IfSome o (λ p. slice_get (map kind_of vs) p.0 ≡ Some (kind_of p.1))

  either_fits : (t : Bool) (o p : Option (ℕ × Val)) → Fits o → Fits p → Fits (cond t o p)
  either_fits true o p h k = h
  either_fits false o p h k = k

  stores_fit : (s : Stmt) (n : ℕ) → StmtKept (map kind_of vs) ds s → Fits (stores vs s n)
  stores_fit skip n k = tt
  stores_fit (assign v e) n k = k.1 ∙ ap (λ j. Some j) (sym (eval_kind vs k.0 e k.2))
  stores_fit (send c m es) n k = tt
  stores_fit (receive c m ws) n k = tt
  stores_fit (sequence a b) n k = stores_fit a n k.0
  stores_fit (select a b) n k = either_fits (ltb n (most_fronts a)) (stores vs a n) (stores vs b (n - most_fronts a)) (stores_fit a n k.1) (stores_fit b (n - most_fronts a) k.2)
  stores_fit (guard e a) n k = stores_fit a n k.1
  stores_fit (branch e a b) n k = tt
  stores_fit (loop e a) n k = tt

pub stores_kept : (c : Class) (vs : List Val) (left : List Stmt) (n : ℕ) → ClassKept c → ProcessOf c vs left → IfSome (process_stores vs left n) (λ p. slice_get (map kind_of c.variables) p.0 ≡ Some (kind_of p.1))
stores_kept c vs [] n k h = tt
stores_kept c vs (s ∷ left) n k h =
    let there = part_kept (map kind_of c.variables) c.declarations c.statement s k.statement_kept h.parts.0 in
    subst (λ ks. IfSome (stores vs s n) (λ p. slice_get ks p.0 ≡ Some (kind_of p.1))) h.kinds
    (stores_fit vs c.declarations s n (subst (λ ks. StmtKept ks c.declarations s) (sym h.kinds) there))

pub stores_kept_by : (ks : List Kind) (ds : List Declaration) (vs : List Val) (left : List Stmt) (n : ℕ) → map kind_of vs ≡ ks → AllByRecursion (StmtKept ks ds) left → IfSome (process_stores vs left n) (λ p. slice_get ks p.0 ≡ Some (kind_of p.1))
stores_kept_by ks ds vs [] n e k = tt
stores_kept_by ks ds vs (s ∷ left) n e k =
    subst (λ js. IfSome (stores vs s n) (λ p. slice_get js p.0 ≡ Some (kind_of p.1))) e
    (stores_fit vs ds s n (subst (λ js. StmtKept js ds s) (sym e) k.0))

-- in the code: what the front of a number stores, of each statement
abbrev pub Storing : Option FrontC → Option (ℕ × Val) → Type 0
Storing r o = IfSome r (λ x. stored_by x.action ≡ o)

either_stores : (t : Bool) (r u : Option FrontC) (o : Option (ℕ × Val)) → Storing r o → Storing u o → Storing (cond t r u) o
either_stores true r u o h k = h
either_stores false r u o h k = k

module _ (vs : List Val) (n : ℕ) (r : Option FrontC) (s : Stmt) where
  pub one_stores : (a : ActionC) (l : Left) (u : Stmt) → r ≡ one_front n a l → s ≡ u → stored_by a ≡ stores vs u n → Storing r (stores vs s n)
  one_stores a l u e p h = rw (e, p) (either_stores (eqb n 0) (Some (record { action = a; leaves = l })) None (stores vs u n) h tt)

  pub set_stores : (v : ℕ) (row : Row) (x : Expr) (l : Left) → r ≡ one_front n (Store v row) l → s ≡ assign v x → value_of_row row ≡ eval x vs → Storing r (stores vs s n)
  set_stores v row x l e p q = one_stores (Store v row) l (assign v x) e p (ap (λ w. Some (v, w)) q)

  pub two_store : (v : Val) (a b : Left) (u : Stmt) → r ≡ two_fronts v n a b → s ≡ u → None ≡ stores vs u n → Storing r (stores vs s n)
  two_store v a b u e p h =
      let yes : Option FrontC = Some (record { action = Internal; leaves = a }) in
      let no : Option FrontC = Some (record { action = Internal; leaves = b }) in
      let o = stores vs u n in
      rw (e, p)
      (either_stores (eqb n 0) (cond (not (is_false v)) yes None) (cond (eqb n 1) (cond (not (is_true v)) no None) None) o
      (either_stores (not (is_false v)) yes None o h tt)
      (either_stores (eqb n 1) (cond (not (is_true v)) no None) None o (either_stores (not (is_true v)) no None o h tt) tt))

  -- as a part does
  pub part_stores : (u : Stmt) (o : Option (ℕ × Val)) → s ≡ u → o ≡ stores vs u n → Storing r o → Storing r (stores vs s n)
  part_stores u o p e i = subst (Storing r) (e ∙ ap (λ w. stores vs w n) (sym p)) i

  pub first_stores : (a b : Stmt) → s ≡ select a b → n < most_fronts a → Storing r (stores vs a n) → Storing r (stores vs s n)
  first_stores a b p l i = rw (p, lt-ltb n (most_fronts a) l) i

  pub second_stores : (a b : Stmt) (m : ℕ) → s ≡ select a b → m ≡ most_fronts a → m ≤ n → Storing r (stores vs b (n - m)) → Storing r (stores vs s n)
  second_stores a b m p e l i =
      let past : most_fronts a ≤ n = omega (arith, e, l) in
      rw (p, le-ltb n (most_fronts a) past) (subst (λ j. Storing r (stores vs b (n - j))) e i)
