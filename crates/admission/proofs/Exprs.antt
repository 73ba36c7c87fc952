-- The check of an expression accepts exactly the expressions that keep the conditions.
use Rattle.std.proofs.Common.{◌≡◌, ℕ, zero, suc, ◌+◌, ◌-◌, ◌<◌, ◌≤◌, eqb, List, [], ◌∷◌, length, drop, Some, Ok, sym, refl, ap, ◌∙◌, subst, arith, eq-eqb, eqb-true}
use Rattle.values.specs.declared.kind.Kind.{Kind}
use Rattle.values.specs.declared.kind.Kind.TheVariants.{Boolean}
use Rattle.values.specs.Kinds.{awaited, same_kind}
use Rattle.values.specs.Ops.{part_kind, gives}
use Rattle.commands.specs.declared.expression.ExpressionCommand.{ExpressionCommand}
use Rattle.commands.specs.declared.expression.ExpressionCommand.TheVariants.{Leaf as LeafC, Binary, Not}
use Rattle.commands.specs.declared.expression.Leaf.{Leaf}
use Rattle.commands.specs.declared.expression.Leaf.TheVariants.{Int, Bool as BoolL, Iunk, Var}
use Rattle.commands.specs.Depths.{expr_depth, exprs_depth}
use Rattle.commands.specs.Expressions.{expression_command, leaf_size}
use Rattle.commands.specs.Stands.{ExprAt, ExprsAt}
use Rattle.commands.specs.Trees.{Expr, leaf, binary, negation, expr_size, exprs_size}
use Rattle.answers.specs.declared.fault.FaultKind.TheVariants.{Command, Operand, PartKind}
use Rattle.answers.specs.declared.fault.Layer.TheVariants.{Expression}
use Rattle.heads.specs.Checked.{ask, known}
use Rattle.files.specs.Expressions.{End, check_expression, expression_parts, leaf_kind, first_fits}
use Rattle.files.specs.Statements.{check_values}
use Rattle.commands.specs.ByteLists.{Bytes}
use Rattle.admission.specs.Conditions.{LeafKept, ExprKept, ExprsKept}
use Rattle.admission.proofs.Oks.{bind_ok, seq_ok, ask_ok, ask_last, known_ok, ok_is, same_from, same_refl}
use Rattle.admission.proofs.Ranges.{int_ranged}

pub expr_step : (c : ExpressionCommand) (d : ℕ) (f : List ℕ) (at : ℕ) (ks : List Kind) → expression_command (drop at f) ≡ Some c → 0 < d → check_expression d f at ks ≡ expression_parts (λ p. check_expression (d - 1) f p ks) ks at c
unfolding check_expression
expr_step c zero f at ks e h = absurd (omega arith)
expr_step c (suc d) f at ks e h = let less : suc d - 1 ≡ d = omega arith in rw (less, e)

-- a tree that keeps the conditions stands at the place, and the check answered its end and kind
pub record ExprFound (d : ℕ) (f : List ℕ) (at : ℕ) (ks : List Kind) (e : End) (t : Expr) : Type 0 where
  pub stands : ExprAt f at t
  pub ends : e.0 ≡ at + expr_size t
  pub kept : ExprKept ks e.1 t
  pub deep : expr_depth t ≤ d

leaf_kept : (f : List ℕ) (at : ℕ) (ks : List Kind) (k : Kind) (l : Leaf) → Bytes f → expression_command (drop at f) ≡ Some (LeafC l) → leaf_kind ks l ≡ Some k → LeafKept ks k l
leaf_kept f at ks k (Int z) bs s h = (h, int_ranged f at z bs s)
leaf_kept f at ks k (BoolL b) bs s h = h
leaf_kept f at ks k Iunk bs s h = h
leaf_kept f at ks k (Var v) bs s h = h

module _ (d : ℕ) (f : List ℕ) (bs : Bytes f) (ks : List Kind) (below : (at : ℕ) (e : End) → check_expression d f at ks ≡ Ok e → (t : Expr) × ExprFound d f at ks e t) (at : ℕ) (e : End) where
  expr_from_parts : (c : ExpressionCommand) → expression_command (drop at f) ≡ Some c → expression_parts (λ p. check_expression d f p ks) ks at c ≡ Ok e → (t : Expr) × ExprFound (suc d) f at ks e t
  expr_from_parts (LeafC l) s h =
      let p = bind_ok (known (leaf_kind ks l) Operand at Expression) _ e h in
      let q : ◌≡◌ {A = End} (at + leaf_size l, p.0) e = ok_is _ _ p.2 in
      let k : leaf_kind ks l ≡ Some e.1 = known_ok _ Operand at Expression _ p.1 ∙ ap (λ x. Some x.1) q in
      (leaf l, record { stands = s; ends = sym (ap (λ x. x.0) q); kept = leaf_kept f at ks e.1 l bs s k; deep = omega arith })
  expr_from_parts (Binary op m) s h =
      let p = bind_ok (check_expression d f (at + 3) ks) _ e h in
      let a = p.0 in
      let q = seq_ok (first_fits op m at a) _ e p.2 in
      let r = ask_ok (awaited (part_kind op) a.1) PartKind (at + 3) Expression (ask (eqb a.0 m) Command at Expression) tt q.1 in
      let t = bind_ok (check_expression d f a.0 ks) _ e q.2 in
      let b = t.0 in
      let u = ask_ok (same_kind a.1 b.1) PartKind a.0 Expression _ e t.2 in
      let left = below (at + 3) a p.1 in
      let right = below a.0 b t.1 in
      let done : ◌≡◌ {A = End} (b.0, gives op) e = ok_is _ _ u.1 in
      let place : a.0 ≡ m = eqb-true a.0 m (ask_last _ Command at Expression tt r.1) in
      let stop : b.0 ≡ e.0 = ap (λ x. x.0) done in (
        binary op left.0 right.0,
        record {
          stands = (s ∙ ap (λ n. Some (Binary op n)) (sym place ∙ left.1.ends), left.1.stands, subst (λ n. ExprAt f n right.0) left.1.ends right.1.stands);
          ends = omega (arith, stop, left.1.ends, right.1.ends);
          kept = (ap (λ x. x.1) done, (a.1, r.0, left.1.kept, subst (λ k. ExprKept ks k right.0) (same_from a.1 b.1 u.0) right.1.kept));
          deep = omega (arith, left.1.deep, right.1.deep);
        },
      )
  expr_from_parts Not s h =
      let p = bind_ok (check_expression d f (at + 1) ks) _ e h in
      let a = p.0 in
      let q = ask_ok (same_kind Boolean a.1) PartKind (at + 1) Expression _ e p.2 in
      let only = below (at + 1) a p.1 in
      let done : ◌≡◌ {A = End} (a.0, Boolean) e = ok_is _ _ q.1 in
      let stop : a.0 ≡ e.0 = ap (λ x. x.0) done in (
        negation only.0,
        record {
          stands = (s, only.1.stands);
          ends = omega (arith, stop, only.1.ends);
          kept = (sym (ap (λ x. x.1) done), subst (λ k. ExprKept ks k only.0) (same_from Boolean a.1 q.0) only.1.kept);
          deep = omega (arith, only.1.deep);
        },
      )

pub expr_sound : (d : ℕ) (f : List ℕ) → Bytes f → (at : ℕ) (ks : List Kind) (e : End) → check_expression d f at ks ≡ Ok e → (t : Expr) × ExprFound d f at ks e t
unfolding check_expression
expr_sound zero f bs at ks e h = let p = bind_ok (known (expression_command (drop at f)) Command at Expression) _ e h in let w = p.2 in absurd (let z : ◌≡◌ {A = ℕ} 0 1 = cc in omega arith)
expr_sound (suc d) f bs at ks e h =
    let p = bind_ok (known (expression_command (drop at f)) Command at Expression) _ e h in
    expr_from_parts d f bs ks (λ at' e'. expr_sound d f bs at' ks e') at e p.0 (known_ok _ Command at Expression _ p.1) p.2

leaf_kind_kept : (ks : List Kind) (k : Kind) (l : Leaf) → LeafKept ks k l → leaf_kind ks l ≡ Some k
leaf_kind_kept ks k (Int z) h = h.0
leaf_kind_kept ks k (BoolL b) h = h
leaf_kind_kept ks k Iunk h = h
leaf_kind_kept ks k (Var v) h = h

pub expr_complete : (t : Expr) (d : ℕ) (f : List ℕ) (at : ℕ) (ks : List Kind) (k : Kind) → ExprAt f at t → ExprKept ks k t → expr_depth t ≤ d → check_expression d f at ks ≡ Ok (at + expr_size t, k)
expr_complete (leaf l) d f at ks k s c n = rw (expr_step (LeafC l) d f at ks s (omega arith), leaf_kind_kept ks k l c)
expr_complete (binary op a b) d f at ks k s c n =
    let j = c.1.0 in
    let first : check_expression (d - 1) f (at + 3) ks ≡ Ok (at + 3 + expr_size a, j) = expr_complete a (d - 1) f (at + 3) ks j s.1 c.1.2 (omega arith) in
    let second : check_expression (d - 1) f (at + 3 + expr_size a) ks ≡ Ok (at + 3 + expr_size a + expr_size b, j) = expr_complete b (d - 1) f (at + 3 + expr_size a) ks j s.2 c.1.3 (omega arith) in
    let here = eq-eqb (at + 3 + expr_size a) (at + 3 + expr_size a) refl in
    let long : at + 3 + expr_size a + expr_size b ≡ at + (3 + expr_size a + expr_size b) = omega arith in
    rw (expr_step (Binary op (at + 3 + expr_size a)) d f at ks s.0 (omega arith), first, c.1.1, here, second, same_refl j, long, c.0)
expr_complete (negation a) d f at ks k s c n =
    let only : check_expression (d - 1) f (at + 1) ks ≡ Ok (at + 1 + expr_size a, Boolean) = expr_complete a (d - 1) f (at + 1) ks Boolean s.1 c.1 (omega arith) in
    let long : at + 1 + expr_size a ≡ at + (1 + expr_size a) = omega arith in
    rw (expr_step Not d f at ks s.0 (omega arith), only, long, c.0)

-- some expressions one after the other
pub record ExprsFound (n d : ℕ) (f : List ℕ) (at : ℕ) (ks : List Kind) (e : ℕ × List Kind) (ts : List Expr) : Type 0 where
  pub stands : ExprsAt f at ts
  pub ends : e.0 ≡ at + exprs_size ts
  pub kept : ExprsKept ks e.1 ts
  pub deep : exprs_depth ts ≤ d
  pub count : length ts ≡ n

pub values_sound : (n d : ℕ) (f : List ℕ) → Bytes f → (at : ℕ) (ks : List Kind) (e : ℕ × List Kind) → check_values n (λ p. check_expression d f p ks) at ≡ Ok e → (ts : List Expr) × ExprsFound n d f at ks e ts
values_sound zero d f bs at ks e h =
    let q : ◌≡◌ {A = ℕ × List Kind} (at, []) e = ok_is _ _ h in
    let stop : at ≡ e.0 = ap (λ x. x.0) q in
    ([], record { stands = tt; ends = omega (arith, stop); kept = subst (λ js. ExprsKept ks js []) (ap (λ x. x.1) q) tt; deep = omega arith; count = refl })
values_sound (suc n) d f bs at ks e h =
    let p = bind_ok (check_expression d f at ks) _ e h in
    let a = p.0 in
    let r = bind_ok (check_values n (λ p. check_expression d f p ks) a.0) _ e p.2 in
    let b = r.0 in
    let first = expr_sound d f bs at ks a p.1 in
    let rest = values_sound n d f bs a.0 ks b r.1 in
    let q : ◌≡◌ {A = ℕ × List Kind} (b.0, a.1 ∷ b.1) e = ok_is _ _ r.2 in
    let stop : b.0 ≡ e.0 = ap (λ x. x.0) q in (
      first.0 ∷ rest.0,
      record {
        stands = (first.1.stands, subst (λ m. ExprsAt f m rest.0) first.1.ends rest.1.stands);
        ends = omega (arith, stop, first.1.ends, rest.1.ends);
        kept = subst (λ js. ExprsKept ks js (first.0 ∷ rest.0)) (ap (λ x. x.1) q) (first.1.kept, rest.1.kept);
        deep = omega (arith, first.1.deep, rest.1.deep);
        count = ap suc rest.1.count;
      },
    )

pub values_complete : (ts : List Expr) (d : ℕ) (f : List ℕ) (at : ℕ) (ks js : List Kind) → ExprsAt f at ts → ExprsKept ks js ts → exprs_depth ts ≤ d → check_values (length ts) (λ p. check_expression d f p ks) at ≡ Ok (at + exprs_size ts, js)
values_complete [] d f at ks [] s c n = let here : at ≡ at + 0 = omega arith in ap (λ m. Ok (m, [])) here
values_complete [] d f at ks (j ∷ js) s c n = absurd c
values_complete (t ∷ ts) d f at ks [] s c n = absurd c
values_complete (t ∷ ts) d f at ks (j ∷ js) s c n =
    let first : check_expression d f at ks ≡ Ok (at + expr_size t, j) = expr_complete t d f at ks j s.0 c.0 (omega arith) in
    let rest : check_values (length ts) (λ p. check_expression d f p ks) (at + expr_size t) ≡ Ok (at + expr_size t + exprs_size ts, js) = values_complete ts d f (at + expr_size t) ks js s.1 c.1 (omega arith) in
    let long : at + expr_size t + exprs_size ts ≡ at + (expr_size t + exprs_size ts) = omega arith in
    rw (first, rest, long)
