-- The check of a statement accepts exactly the statements that keep the conditions.
use Rattle.std.proofs.Common.{◌≡◌, ℕ, zero, suc, ◌+◌, ◌-◌, ◌<◌, ◌≤◌, true, false, ◌&&◌, eqb, leb, List, length, take, drop, Some, Ok, sym, refl, ap, ◌∙◌, subst, arith, eq-eqb, eqb-true, le-leb, leb-true}
use Rattle.std.specs.List.{slice_get}
use Rattle.values.specs.declared.kind.Kind.{Kind}
use Rattle.values.specs.declared.kind.Kind.TheVariants.{Boolean}
use Rattle.values.specs.Kinds.{same_kind}
use Rattle.commands.specs.declared.statement.StatementCommand.{StatementCommand}
use Rattle.commands.specs.declared.statement.StatementCommand.TheVariants.{Skip, Set, Send, Recv, Seq, Sel, Guard, If, Do}
use Rattle.commands.specs.Bytes.{padded}
use Rattle.commands.specs.Depths.{expr_depth, stmt_depth}
use Rattle.commands.specs.Stands.{ExprAt, StmtAt}
use Rattle.commands.specs.Statements.{statement_command}
use Rattle.commands.specs.Trees.{Expr, Stmt, skip, assign, send, receive, sequence, select, guard, branch, loop, Declaration, expr_size, exprs_size, stmt_size}
use Rattle.answers.specs.declared.fault.FaultKind.TheVariants.{Command, Operand, PartKind, Undeclared, Fronts}
use Rattle.answers.specs.declared.fault.Layer.TheVariants.{Expression, Statement}
use Rattle.heads.specs.Checked.{Checked, known, ◌>>=◌}
use Rattle.files.specs.Expressions.{check_expression}
use Rattle.files.specs.Statements.{Behind, exchange_fits, variables_fit, kinds_of, check_values, check_test, few_fronts, statement_parts, check_statement}
use Rattle.heads.specs.Exchanges.{declared, exchange}
use Rattle.commands.specs.ByteLists.{Bytes}
use Rattle.admission.specs.Conditions.{ExprKept, StmtKept, most_fronts}
use Rattle.admission.proofs.Oks.{bind_ok, ask_ok, known_ok, both_true, ok_is, same_from, same_refl}
use Rattle.admission.proofs.Ranges.{four_variables}
use Rattle.admission.proofs.Exprs.{expr_sound, expr_complete, values_sound, values_complete}
use Rattle.admission.proofs.Exchanges.{declared_sound, declared_complete, variables_sound, variables_complete, exchange_sound, exchange_complete}

-- a tree that keeps the conditions stands at the place, and the check answered its end and its most fronts
pub record StmtFound (d : ℕ) (f : List ℕ) (at : ℕ) (ks : List Kind) (ds : List Declaration) (e : Behind) (t : Stmt) : Type 0 where
  pub stands : StmtAt f at t
  pub ends : e.0 ≡ at + stmt_size t
  pub kept : StmtKept ks ds t
  pub deep : stmt_depth t ≤ d
  pub fronts : e.1 ≡ most_fronts t

-- a test at a place
record TestFound (d : ℕ) (f : List ℕ) (at : ℕ) (ks : List Kind) (e : ℕ) (t : Expr) : Type 0 where
  stands : ExprAt f at t
  ends : e ≡ at + expr_size t
  kept : ExprKept ks Boolean t
  deep : expr_depth t ≤ d

test_sound : (d : ℕ) (f : List ℕ) → Bytes f → (at : ℕ) (ks : List Kind) (e : ℕ) → check_test (λ p. check_expression d f p ks) at ≡ Ok e → (t : Expr) × TestFound d f at ks e t
test_sound d f bs at ks e h =
    let p = bind_ok (check_expression d f at ks) _ e h in
    let a = p.0 in
    let q = ask_ok (same_kind Boolean a.1) PartKind at Expression _ e p.2 in
    let x = expr_sound d f bs at ks a p.1 in
    let stop : a.0 ≡ e = ok_is _ _ q.1 in
    (x.0, record { stands = x.1.stands; ends = sym stop ∙ x.1.ends; kept = subst (λ k. ExprKept ks k x.0) (same_from Boolean a.1 q.0) x.1.kept; deep = x.1.deep })

module _ (d : ℕ) (f : List ℕ) (bs : Bytes f) (ks : List Kind) (ds : List Declaration) (below : (at : ℕ) (e : Behind) → check_statement d f at ks ds ≡ Ok e → (t : Stmt) × StmtFound d f at ks ds e t) (at : ℕ) (e : Behind) where
  abbrev Found : Type 0
  Found = (t : Stmt) × StmtFound (suc d) f at ks ds e t

  abbrev parts : StatementCommand → Checked Behind
  parts = statement_parts (λ p. check_expression d f p ks) (λ p. check_statement d f p ks ds) ks ds at

  from_skip : statement_command (drop at f) ≡ Some Skip → parts Skip ≡ Ok e → Found
  from_skip s h =
      let q : ◌≡◌ {A = Behind} (at + 1, 1) e = ok_is _ _ h in
      (skip, record { stands = s; ends = sym (ap (λ x. x.0) q); kept = tt; deep = omega arith; fronts = sym (ap (λ x. x.1) q) })

  from_set : (v : ℕ) → statement_command (drop at f) ≡ Some (Set v) → parts (Set v) ≡ Ok e → Found
  from_set v s h =
      let p = bind_ok (known (slice_get ks v) Operand at Statement) _ e h in
      let k = p.0 in
      let r = bind_ok (check_expression d f (at + 2) ks) _ e p.2 in
      let a = r.0 in
      let u = ask_ok (same_kind k a.1) PartKind (at + 2) Expression _ e r.2 in
      let x = expr_sound d f bs (at + 2) ks a r.1 in
      let q : ◌≡◌ {A = Behind} (a.0, 1) e = ok_is _ _ u.1 in
      let stop : a.0 ≡ e.0 = ap (λ x. x.0) q in (
        assign v x.0,
        record {
          stands = (s, x.1.stands);
          ends = omega (arith, stop, x.1.ends);
          kept = (k, known_ok (slice_get ks v) Operand at Statement k p.1, subst (λ j. ExprKept ks j x.0) (same_from k a.1 u.0) x.1.kept);
          deep = omega (arith, x.1.deep);
          fronts = sym (ap (λ x. x.1) q);
        },
      )

  from_send : (c m n : ℕ) → statement_command (drop at f) ≡ Some (Send c m n) → parts (Send c m n) ≡ Ok e → Found
  from_send c m n s h =
      let p = ask_ok (exchange_fits c m n) Operand at Statement _ e h in
      let r = bind_ok (check_values n (λ p. check_expression d f p ks) (at + 4)) _ e p.1 in
      let a = r.0 in
      let u = ask_ok (declared (exchange false c m a.1) ds) Undeclared at Statement _ e r.2 in
      let x = values_sound n d f bs (at + 4) ks a r.1 in
      let q : ◌≡◌ {A = Behind} (a.0, 1) e = ok_is _ _ u.1 in
      let stop : a.0 ≡ e.0 = ap (λ x. x.0) q in
      let count : length x.0 ≡ n = x.1.count in (
        send c m x.0,
        record {
          stands = (s ∙ ap (λ i. Some (Send c m i)) (sym count), x.1.stands);
          ends = omega (arith, stop, x.1.ends);
          kept = (exchange_sound c m (length x.0) (ap (λ i. exchange_fits c m i) count ∙ p.0), (a.1, x.1.kept, declared_sound (exchange false c m a.1) ds u.0));
          deep = omega (arith, x.1.deep);
          fronts = sym (ap (λ x. x.1) q);
        },
      )

  from_recv : (c m n : ℕ) (vs : List ℕ) → statement_command (drop at f) ≡ Some (Recv c m n vs) → parts (Recv c m n vs) ≡ Ok e → Found
  from_recv c m n vs s h =
      let p = ask_ok (exchange_fits c m n && variables_fit (length ks) n vs) Operand at Statement _ e h in
      let b = both_true (exchange_fits c m n) (variables_fit (length ks) n vs) p.0 in
      let u = ask_ok (declared (exchange true c m (kinds_of ks (take n vs))) ds) Undeclared at Statement _ e p.1 in
      let few = exchange_sound c m n b.0 in
      let x = variables_sound ks n vs (four_variables (drop at f) c m n vs s) few.count_kept b.1 in
      let q : ◌≡◌ {A = Behind} (at + 8, 1) e = ok_is _ _ u.1 in
      let count : length (take n vs) ≡ n = x.count in (
        receive c m (take n vs),
        record {
          stands = s ∙ ap (λ i. Some (Recv c m i vs)) (sym count) ∙ ap (λ l. Some (Recv c m (length (take n vs)) l)) (sym x.all);
          ends = sym (ap (λ x. x.0) q);
          kept = (exchange_sound c m (length (take n vs)) (ap (λ i. exchange_fits c m i) count ∙ b.0), x.differ, (kinds_of ks (take n vs), x.kinds, declared_sound (exchange true c m (kinds_of ks (take n vs))) ds u.0));
          deep = omega arith;
          fronts = sym (ap (λ x. x.1) q);
        },
      )

  from_seq : (m : ℕ) → statement_command (drop at f) ≡ Some (Seq m) → parts (Seq m) ≡ Ok e → Found
  from_seq m s h =
      let p = bind_ok (check_statement d f (at + 3) ks ds) _ e h in
      let a = p.0 in
      let r = ask_ok (eqb a.0 m) Command at Statement _ e p.2 in
      let t = bind_ok (check_statement d f a.0 ks ds) _ e r.1 in
      let b = t.0 in
      let x = below (at + 3) a p.1 in
      let y = below a.0 b t.1 in
      let q : ◌≡◌ {A = Behind} (b.0, a.1) e = ok_is _ _ t.2 in
      let place : a.0 ≡ m = eqb-true a.0 m r.0 in
      let stop : b.0 ≡ e.0 = ap (λ x. x.0) q in (
        sequence x.0 y.0,
        record {
          stands = (s ∙ ap (λ n. Some (Seq n)) (sym place ∙ x.1.ends), x.1.stands, subst (λ n. StmtAt f n y.0) x.1.ends y.1.stands);
          ends = omega (arith, stop, x.1.ends, y.1.ends);
          kept = (x.1.kept, y.1.kept);
          deep = omega (arith, x.1.deep, y.1.deep);
          fronts = sym (ap (λ x. x.1) q) ∙ x.1.fronts;
        },
      )

  from_sel : (m : ℕ) → e.1 ≤ 8 → statement_command (drop at f) ≡ Some (Sel m) → parts (Sel m) ≡ Ok e → Found
  from_sel m few s h =
      let p = bind_ok (check_statement d f (at + 3) ks ds) _ e h in
      let a = p.0 in
      let r = ask_ok (eqb a.0 m) Command at Statement _ e p.2 in
      let t = bind_ok (check_statement d f a.0 ks ds) _ e r.1 in
      let b = t.0 in
      let x = below (at + 3) a p.1 in
      let y = below a.0 b t.1 in
      let q : ◌≡◌ {A = Behind} (b.0, a.1 + b.1) e = ok_is _ _ t.2 in
      let place : a.0 ≡ m = eqb-true a.0 m r.0 in
      let stop : b.0 ≡ e.0 = ap (λ x. x.0) q in
      let sum : a.1 + b.1 ≡ e.1 = ap (λ x. x.1) q in (
        select x.0 y.0,
        record {
          stands = (s ∙ ap (λ n. Some (Sel n)) (sym place ∙ x.1.ends), x.1.stands, subst (λ n. StmtAt f n y.0) x.1.ends y.1.stands);
          ends = omega (arith, stop, x.1.ends, y.1.ends);
          kept = (omega (arith, few, sum, x.1.fronts, y.1.fronts), x.1.kept, y.1.kept);
          deep = omega (arith, x.1.deep, y.1.deep);
          fronts = omega (arith, sum, x.1.fronts, y.1.fronts);
        },
      )

  from_guard : (m : ℕ) → statement_command (drop at f) ≡ Some (Guard m) → parts (Guard m) ≡ Ok e → Found
  from_guard m s h =
      let p = bind_ok (check_test (λ p. check_expression d f p ks) (at + 3)) _ e h in
      let a = p.0 in
      let r = ask_ok (eqb a m) Command at Statement _ e p.2 in
      let x = test_sound d f bs (at + 3) ks a p.1 in
      let y = below a e r.1 in
      let place : a ≡ m = eqb-true a m r.0 in (
        guard x.0 y.0,
        record {
          stands = (s ∙ ap (λ n. Some (Guard n)) (sym place ∙ x.1.ends), x.1.stands, subst (λ n. StmtAt f n y.0) x.1.ends y.1.stands);
          ends = omega (arith, x.1.ends, y.1.ends);
          kept = (x.1.kept, y.1.kept);
          deep = omega (arith, x.1.deep, y.1.deep);
          fronts = y.1.fronts;
        },
      )

  from_do : (m : ℕ) → statement_command (drop at f) ≡ Some (Do m) → parts (Do m) ≡ Ok e → Found
  from_do m s h =
      let p = bind_ok (check_test (λ p. check_expression d f p ks) (at + 3)) _ e h in
      let a = p.0 in
      let r = ask_ok (eqb a m) Command at Statement _ e p.2 in
      let t = bind_ok (check_statement d f a ks ds) _ e r.1 in
      let b = t.0 in
      let x = test_sound d f bs (at + 3) ks a p.1 in
      let y = below a b t.1 in
      let q : ◌≡◌ {A = Behind} (b.0, 2) e = ok_is _ _ t.2 in
      let stop : b.0 ≡ e.0 = ap (λ x. x.0) q in
      let place : a ≡ m = eqb-true a m r.0 in (
        loop x.0 y.0,
        record {
          stands = (s ∙ ap (λ n. Some (Do n)) (sym place ∙ x.1.ends), x.1.stands, subst (λ n. StmtAt f n y.0) x.1.ends y.1.stands);
          ends = omega (arith, stop, x.1.ends, y.1.ends);
          kept = (x.1.kept, y.1.kept);
          deep = omega (arith, x.1.deep, y.1.deep);
          fronts = sym (ap (λ x. x.1) q);
        },
      )

  from_if : (m n : ℕ) → statement_command (drop at f) ≡ Some (If m n) → parts (If m n) ≡ Ok e → Found
  from_if m n s h =
      let p = bind_ok (check_test (λ p. check_expression d f p ks) (at + 5)) _ e h in
      let a = p.0 in
      let r = ask_ok (eqb a m) Command at Statement _ e p.2 in
      let t = bind_ok (check_statement d f a ks ds) _ e r.1 in
      let b = t.0 in
      let u = ask_ok (eqb b.0 n) Command at Statement _ e t.2 in
      let v = bind_ok (check_statement d f b.0 ks ds) _ e u.1 in
      let c = v.0 in
      let x = test_sound d f bs (at + 5) ks a p.1 in
      let y = below a b t.1 in
      let z = below b.0 c v.1 in
      let q : ◌≡◌ {A = Behind} (c.0, 2) e = ok_is _ _ v.2 in
      let stop : c.0 ≡ e.0 = ap (λ x. x.0) q in
      let first : m ≡ at + 5 + expr_size x.0 = sym (eqb-true a m r.0) ∙ x.1.ends in
      let behind : b.0 ≡ at + 5 + expr_size x.0 + stmt_size y.0 = y.1.ends ∙ ap (λ i. i + stmt_size y.0) x.1.ends in
      let second : n ≡ at + 5 + expr_size x.0 + stmt_size y.0 = sym (eqb-true b.0 n u.0) ∙ behind in (
        branch x.0 y.0 z.0,
        record {
          stands = (s ∙ ap (λ i. Some (If i n)) first ∙ ap (λ i. Some (If (at + 5 + expr_size x.0) i)) second, x.1.stands, subst (λ i. StmtAt f i y.0) x.1.ends y.1.stands, subst (λ i. StmtAt f i z.0) behind z.1.stands);
          ends = omega (arith, stop, behind, z.1.ends);
          kept = (x.1.kept, y.1.kept, z.1.kept);
          deep = omega (arith, x.1.deep, y.1.deep, z.1.deep);
          fronts = sym (ap (λ x. x.1) q);
        },
      )

  stmt_from_parts : (c : StatementCommand) → e.1 ≤ 8 → statement_command (drop at f) ≡ Some c → parts c ≡ Ok e → Found
  stmt_from_parts Skip few = from_skip
  stmt_from_parts (Set v) few = from_set v
  stmt_from_parts (Send c m n) few = from_send c m n
  stmt_from_parts (Recv c m n vs) few = from_recv c m n vs
  stmt_from_parts (Seq m) few = from_seq m
  stmt_from_parts (Sel m) few = from_sel m few
  stmt_from_parts (Guard m) few = from_guard m
  stmt_from_parts (If m n) few = from_if m n
  stmt_from_parts (Do m) few = from_do m

pub stmt_sound : (d : ℕ) (f : List ℕ) → Bytes f → (at : ℕ) (ks : List Kind) (ds : List Declaration) (e : Behind) → check_statement d f at ks ds ≡ Ok e → (t : Stmt) × StmtFound d f at ks ds e t
unfolding check_statement
stmt_sound zero f bs at ks ds e h = let p = bind_ok (known (statement_command (drop at f)) Command at Statement) _ e h in let w = p.2 in absurd (let z : ◌≡◌ {A = ℕ} 0 1 = cc in omega arith)
stmt_sound (suc d) f bs at ks ds e h =
    let o = bind_ok (known (statement_command (drop at f)) Command at Statement >>= statement_parts (λ p. check_expression d f p ks) (λ p. check_statement d f p ks ds) ks ds at) (few_fronts at) e h in
    let a = o.0 in
    let r = ask_ok (leb a.1 8) Fronts at Statement _ e o.2 in
    let q : a ≡ e = ok_is a e r.1 in
    let few : e.1 ≤ 8 = subst (λ x. x.1 ≤ 8) q (leb-true a.1 8 r.0) in
    let p = bind_ok (known (statement_command (drop at f)) Command at Statement) _ e (o.1 ∙ ap (λ x. Ok x) q) in
    stmt_from_parts d f bs ks ds (λ at' e'. stmt_sound d f bs at' ks ds e') at e p.0 few (known_ok _ Command at Statement _ p.1) p.2

pub stmt_step : (c : StatementCommand) (d : ℕ) (f : List ℕ) (at : ℕ) (ks : List Kind) (ds : List Declaration) → statement_command (drop at f) ≡ Some c → 0 < d →
    check_statement d f at ks ds ≡ (statement_parts (λ p. check_expression (d - 1) f p ks) (λ p. check_statement (d - 1) f p ks ds) ks ds at c >>= few_fronts at)
unfolding check_statement
stmt_step c zero f at ks ds e h = absurd (omega arith)
stmt_step c (suc d) f at ks ds e h = let less : suc d - 1 ≡ d = omega arith in rw (less, e)

pub fronts_few : (ks : List Kind) (ds : List Declaration) (t : Stmt) → StmtKept ks ds t → most_fronts t ≤ 8
fronts_few ks ds skip c = omega arith
fronts_few ks ds (assign v e) c = omega arith
fronts_few ks ds (send h m es) c = omega arith
fronts_few ks ds (receive h m vs) c = omega arith
fronts_few ks ds (sequence a b) c = fronts_few ks ds a c.0
fronts_few ks ds (select a b) c = c.0
fronts_few ks ds (guard e a) c = fronts_few ks ds a c.1
fronts_few ks ds (branch e a b) c = omega arith
fronts_few ks ds (loop e a) c = omega arith

pub stmt_complete : (t : Stmt) (d : ℕ) (f : List ℕ) (at : ℕ) (ks : List Kind) (ds : List Declaration) → StmtAt f at t → StmtKept ks ds t → stmt_depth t ≤ d → check_statement d f at ks ds ≡ Ok (at + stmt_size t, most_fronts t)
stmt_complete skip d f at ks ds s c n = rw (stmt_step Skip d f at ks ds s (omega arith))
stmt_complete (assign v e) d f at ks ds s c n =
    let k = c.0 in
    let value : check_expression (d - 1) f (at + 2) ks ≡ Ok (at + 2 + expr_size e, k) = expr_complete e (d - 1) f (at + 2) ks k s.1 c.2 (omega arith) in
    let long : at + 2 + expr_size e ≡ at + (2 + expr_size e) = omega arith in
    rw (stmt_step (Set v) d f at ks ds s.0 (omega arith), c.1, value, same_refl k, long)
stmt_complete (send h m es) d f at ks ds s c n =
    let js = c.1.0 in
    let values : check_values (length es) (λ p. check_expression (d - 1) f p ks) (at + 4) ≡ Ok (at + 4 + exprs_size es, js) = values_complete es (d - 1) f (at + 4) ks js s.1 c.1.1 (omega arith) in
    let fits = exchange_complete h m (length es) c.0 in
    let known_one = declared_complete (exchange false h m js) ds c.1.2 in
    let long : at + 4 + exprs_size es ≡ at + (4 + exprs_size es) = omega arith in
    rw (stmt_step (Send h m (length es)) d f at ks ds s.0 (omega arith), fits, values, known_one, long)
stmt_complete (receive h m vs) d f at ks ds s c n =
    let js = c.2.0 in
    let fits = exchange_complete h m (length vs) c.0 in
    let vars = variables_complete ks vs js c.1 c.2.1 in
    let known_one = declared_complete (exchange true h m js) ds c.2.2 in
    rw (stmt_step (Recv h m (length vs) (padded vs)) d f at ks ds s (omega arith), fits, vars.0, vars.1, known_one)
stmt_complete (sequence a b) d f at ks ds s c n =
    let first : check_statement (d - 1) f (at + 3) ks ds ≡ Ok (at + 3 + stmt_size a, most_fronts a) = stmt_complete a (d - 1) f (at + 3) ks ds s.1 c.0 (omega arith) in
    let second : check_statement (d - 1) f (at + 3 + stmt_size a) ks ds ≡ Ok (at + 3 + stmt_size a + stmt_size b, most_fronts b) = stmt_complete b (d - 1) f (at + 3 + stmt_size a) ks ds s.2 c.1 (omega arith) in
    let here = eq-eqb (at + 3 + stmt_size a) (at + 3 + stmt_size a) refl in
    let few = le-leb (most_fronts a) 8 (fronts_few ks ds a c.0) in
    let long : at + 3 + stmt_size a + stmt_size b ≡ at + (3 + stmt_size a + stmt_size b) = omega arith in
    rw (stmt_step (Seq (at + 3 + stmt_size a)) d f at ks ds s.0 (omega arith), first, here, second, few, long)
stmt_complete (select a b) d f at ks ds s c n =
    let first : check_statement (d - 1) f (at + 3) ks ds ≡ Ok (at + 3 + stmt_size a, most_fronts a) = stmt_complete a (d - 1) f (at + 3) ks ds s.1 c.1 (omega arith) in
    let second : check_statement (d - 1) f (at + 3 + stmt_size a) ks ds ≡ Ok (at + 3 + stmt_size a + stmt_size b, most_fronts b) = stmt_complete b (d - 1) f (at + 3 + stmt_size a) ks ds s.2 c.2 (omega arith) in
    let here = eq-eqb (at + 3 + stmt_size a) (at + 3 + stmt_size a) refl in
    let few = le-leb (most_fronts a + most_fronts b) 8 c.0 in
    let long : at + 3 + stmt_size a + stmt_size b ≡ at + (3 + stmt_size a + stmt_size b) = omega arith in
    rw (stmt_step (Sel (at + 3 + stmt_size a)) d f at ks ds s.0 (omega arith), first, here, second, few, long)
stmt_complete (guard e a) d f at ks ds s c n =
    let test : check_expression (d - 1) f (at + 3) ks ≡ Ok (at + 3 + expr_size e, Boolean) = expr_complete e (d - 1) f (at + 3) ks Boolean s.1 c.0 (omega arith) in
    let second : check_statement (d - 1) f (at + 3 + expr_size e) ks ds ≡ Ok (at + 3 + expr_size e + stmt_size a, most_fronts a) = stmt_complete a (d - 1) f (at + 3 + expr_size e) ks ds s.2 c.1 (omega arith) in
    let here = eq-eqb (at + 3 + expr_size e) (at + 3 + expr_size e) refl in
    let few = le-leb (most_fronts a) 8 (fronts_few ks ds a c.1) in
    let long : at + 3 + expr_size e + stmt_size a ≡ at + (3 + expr_size e + stmt_size a) = omega arith in
    rw (stmt_step (Guard (at + 3 + expr_size e)) d f at ks ds s.0 (omega arith), test, here, second, few, long)
stmt_complete (branch e a b) d f at ks ds s c n =
    let m = at + 5 + expr_size e in
    let test : check_expression (d - 1) f (at + 5) ks ≡ Ok (m, Boolean) = expr_complete e (d - 1) f (at + 5) ks Boolean s.1 c.0 (omega arith) in
    let first : check_statement (d - 1) f m ks ds ≡ Ok (m + stmt_size a, most_fronts a) = stmt_complete a (d - 1) f m ks ds s.2 c.1 (omega arith) in
    let second : check_statement (d - 1) f (m + stmt_size a) ks ds ≡ Ok (m + stmt_size a + stmt_size b, most_fronts b) = stmt_complete b (d - 1) f (m + stmt_size a) ks ds s.3 c.2 (omega arith) in
    let here = eq-eqb m m refl in
    let there = eq-eqb (m + stmt_size a) (m + stmt_size a) refl in
    let long : m + stmt_size a + stmt_size b ≡ at + (5 + expr_size e + stmt_size a + stmt_size b) = omega arith in
    rw (stmt_step (If m (m + stmt_size a)) d f at ks ds s.0 (omega arith), test, here, first, there, second, long)
stmt_complete (loop e a) d f at ks ds s c n =
    let test : check_expression (d - 1) f (at + 3) ks ≡ Ok (at + 3 + expr_size e, Boolean) = expr_complete e (d - 1) f (at + 3) ks Boolean s.1 c.0 (omega arith) in
    let second : check_statement (d - 1) f (at + 3 + expr_size e) ks ds ≡ Ok (at + 3 + expr_size e + stmt_size a, most_fronts a) = stmt_complete a (d - 1) f (at + 3 + expr_size e) ks ds s.2 c.1 (omega arith) in
    let here = eq-eqb (at + 3 + expr_size e) (at + 3 + expr_size e) refl in
    let long : at + 3 + expr_size e + stmt_size a ≡ at + (3 + expr_size e + stmt_size a) = omega arith in
    rw (stmt_step (Do (at + 3 + expr_size e)) d f at ks ds s.0 (omega arith), test, here, second, long)
