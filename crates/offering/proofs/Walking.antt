-- The walk over a statement: what it owes to its parts, and what they give it, by the command at its place.
use Rattle.std.proofs.Common.{◌≡◌, ℕ, ◌+◌, ◌≤◌, Option, Bool, true, false, not, List, [], ◌∷◌, ◌++◌, map, length, drop, take, Some, ◌⊎◌, inl, inr, sym, refl, ap, ◌∙◌, subst, arith, length-append, append-nil}
use Rattle.std.proofs.lemmas.List.{map-append}
use lib.ListN.{length-map}
use Rattle.values.specs.declared.kind.Kind.{Kind}
use Rattle.values.specs.Values.{Val, kind_of}
use Rattle.commands.specs.declared.statement.StatementCommand.{StatementCommand}
use Rattle.commands.specs.declared.statement.StatementCommand.TheVariants.{Skip, Set, Send as SendC, Recv, Seq, Sel, Guard, If, Do}
use Rattle.commands.specs.Stands.{ExprAt, ExprsAt, StmtAt}
use Rattle.commands.specs.Statements.{statement_command}
use Rattle.commands.specs.Trees.{Expr, Stmt, loop}
use Rattle.admission.specs.Conditions.{most_fronts}
use Rattle.parts.proofs.Walking.{stmt_here}
use Rattle.processes.specs.Evaluation.{eval}
use Rattle.processes.specs.Fronts.{internal, Front, front, is_true, is_false, offered, behind, fronts}
use Rattle.processes.proofs.Ascending.{ascend_short}
use Rattle.processes.proofs.Statements.{received}
use Rattle.processes.proofs.Numbered.{numbered}
use Rattle.records.specs.declared.list.RecordList.{RecordList}
use Rattle.records.specs.Lists.{items, room_of, Grown}
use Rattle.records.proofs.Filling.{grown_both}
use Rattle.listing.specs.declared.offer.Offer.{Offer}
use Rattle.listing.specs.declared.offer.Role.TheVariants.{Internal, Send, Receive}
use Rattle.listing.specs.Offers.{kind_places, seen}
use Rattle.steps.specs.Steps.{target_kinds}
use Rattle.offering.proofs.Kinding.{map_map}
use Rattle.offering.specs.Walked.{offer, offered_when, offered_either, Walk, seen_fronts}

-- what a walk promises
abbrev pub Appends : List ℕ → ℕ → ℕ → ℕ → List Val → RecordList Offer → RecordList Offer → ℕ → Type 0
Appends f at p n vs out new next = record { offers : (s : Stmt) → StmtAt f at s → Grown out new (seen_fronts p n vs s); next : (s : Stmt) → StmtAt f at s → next ≡ n + most_fronts s }

-- what stands behind a statement is not seen
pub seen_behind : (p n : ℕ) (vs : List Val) (s : Stmt) (rest : List Stmt) → map (λ (x : Front). seen p x.number vs x.does) (map (behind rest) (fronts vs n s)) ≡ seen_fronts p n vs s
seen_behind p n vs s rest = map_map (λ (x : Front). seen p x.number vs x.does) (behind rest) (fronts vs n s)

-- no more is seen than the statement can have
seen_few : (p n : ℕ) (vs : List Val) (s : Stmt) → length (seen_fronts p n vs s) ≤ most_fronts s
seen_few p n vs s = omega (arith, length-map (fronts vs n s) (λ x. seen p x.number vs x.does), ascend_short n (n + most_fronts s) (fronts vs n s) (numbered vs n s))

ways : (p n : ℕ) (vs us : List Val) (t u : Bool) (xs ys : List Stmt) → map (λ (x : Front). seen p x.number vs x.does) (offered t (front n internal us xs) ++ offered u (front (n + 1) internal us ys)) ≡ offered_when t p n ++ offered_when u p (n + 1)
ways p n vs us true true xs ys = refl
ways p n vs us true false xs ys = refl
ways p n vs us false true xs ys = refl
ways p n vs us false false xs ys = refl

module _ (f : List ℕ) (at n : ℕ) (out : RecordList Offer) {x : StatementCommand} (read : Some x ≡ statement_command (drop at f)) where
  -- what a walk asks, at each command
  abbrev Walked : Type 0
  Walked = (s : Stmt) × Walk f at n out s

  abbrev Fits : ℕ → Type 0
  Fits k = record { few : n + k ≤ 8; room : length (items out) + k ≤ room_of out }

  fits : (k : ℕ) (w : Walked) → most_fronts w.0 ≡ k → Fits k
  fits k w e = record { few = omega (arith, e, w.1.few); room = omega (arith, e, w.1.room) }

  pub silent_fits : (x ≡ Skip) ⊎ ((v : ℕ) × (x ≡ Set v)) → Walked → Fits 1
  silent_fits (inl i) w = fits 1 w (ap most_fronts (stmt_here f at w.0 i read w.1.here))
  silent_fits (inr i) w = fits 1 w (ap most_fronts (stmt_here f at w.0 i.1 read w.1.here).1)

  pub send_fits : {c m k : ℕ} → x ≡ SendC c m k → Walked → Fits 1
  send_fits i w = fits 1 w (ap most_fronts (stmt_here f at w.0 i read w.1.here).1)

  pub sent_stands : {c m k : ℕ} → x ≡ SendC c m k → Walked → (es : List Expr) × (k ≡ length es) × ExprsAt f (at + 4) es × (k ≤ 4)
  sent_stands i w =
      let p = stmt_here f at w.0 i read w.1.here in
      let h = subst (Walk f at n out) p.1 w.1 in
      (p.0, p.2, p.3, omega (arith, p.2, h.kept.2.0.count_kept))

  pub receive_fits : {c m k : ℕ} {ws : List ℕ} → x ≡ Recv c m k ws → Walked → Fits 1
  receive_fits i w = fits 1 w (ap most_fronts (stmt_here f at w.0 i read w.1.here).1)

  pub sequence_walk : {m : ℕ} → x ≡ Seq m → Walked → (a : Stmt) × Walk f (at + 3) n out a
  sequence_walk i w =
      let p = stmt_here f at w.0 i read w.1.here in
      let h = subst (Walk f at n out) p.2 w.1 in
      (p.0, record { here = p.4; kept = (h.kept.0, h.kept.1, h.kept.2.0); few = h.few; room = h.room })

  pub first_walk : {m : ℕ} → x ≡ Sel m → Walked → (a : Stmt) × Walk f (at + 3) n out a
  first_walk i w =
      let p = stmt_here f at w.0 i read w.1.here in
      let h = subst (Walk f at n out) p.2 w.1 in
      (p.0, record { here = p.4; kept = (h.kept.0, h.kept.1, h.kept.2.1); few = omega (arith, h.few); room = omega (arith, h.room) })

  pub second_walk : {m : ℕ} (p next : ℕ) (vs : List Val) (mid : RecordList Offer) → x ≡ Sel m → Appends f (at + 3) p n vs out mid next → Walked → (b : Stmt) × Walk f m next mid b
  second_walk p next vs mid i g w =
      let q = stmt_here f at w.0 i read w.1.here in
      let h = subst (Walk f at n out) q.2 w.1 in
      let e = g.next q.0 q.4 in
      let more = g.offers q.0 q.4 in
      let k : length (items mid) ≡ length (items out) + length (seen_fronts p n vs q.0) = ap length more.list ∙ length-append (items out) (seen_fronts p n vs q.0) in
      (q.1, record { here = q.5; kept = (h.kept.0, h.kept.1, h.kept.2.2); few = omega (arith, e, h.few); room = omega (arith, k, seen_few p n vs q.0, more.same_room, h.room) })

  pub guard_value : {m : ℕ} → x ≡ Guard m → Walked → (e : Expr) × ExprAt f (at + 3) e
  guard_value i w = let p = stmt_here f at w.0 i read w.1.here in (p.0, p.4)

  pub guard_walk : {m : ℕ} → x ≡ Guard m → Walked → (a : Stmt) × Walk f m n out a
  guard_walk i w =
      let p = stmt_here f at w.0 i read w.1.here in
      let h = subst (Walk f at n out) p.2 w.1 in
      (p.1, record { here = p.5; kept = (h.kept.0, h.kept.1, h.kept.2.1); few = h.few; room = h.room })

  pub branch_value : {m k : ℕ} → x ≡ If m k → Walked → (e : Expr) × ExprAt f (at + 5) e
  branch_value i w = let p = stmt_here f at w.0 i read w.1.here in (p.0, p.6)

  pub branch_fits : {m k : ℕ} → x ≡ If m k → Walked → Fits 2
  branch_fits i w = fits 2 w (ap most_fronts (stmt_here f at w.0 i read w.1.here).3)

  pub loop_value : {m : ℕ} → x ≡ Do m → Walked → (e : Expr) × ExprAt f (at + 3) e
  loop_value i w = let p = stmt_here f at w.0 i read w.1.here in (p.0, p.4)

  pub loop_fits : {m : ℕ} → x ≡ Do m → Walked → Fits 2
  loop_fits i w = fits 2 w (ap most_fronts (stmt_here f at w.0 i read w.1.here).2)

  -- what each command's arm appends is what is seen of the fronts
  module _ (p : ℕ) (vs : List Val) (new : RecordList Offer) (next : ℕ) where
    abbrev Does : Type 0
    Does = Appends f at p n vs out new next

    pub silent_does : (x ≡ Skip) ⊎ ((v : ℕ) × (x ≡ Set v)) → Grown out new (offer p n Internal ∷ []) → next ≡ n + 1 → Does
    silent_does (inl i) g e = record {
      offers = λ s h. let q = stmt_here f at s i read h in rw q g;
      next = λ s h. omega (arith, e, ap most_fronts (stmt_here f at s i read h));
    }
    silent_does (inr i) g e = record {
      offers = λ s h. let q = (stmt_here f at s i.1 read h).1 in rw q g;
      next = λ s h. omega (arith, e, ap most_fronts (stmt_here f at s i.1 read h).1);
    }

    pub send_does : {c m k : ℕ} {ks : List (Option Kind)} → x ≡ SendC c m k → ((es : List Expr) → k ≡ length es → ExprsAt f (at + 4) es → ks ≡ kind_places 4 (map (λ e. kind_of (eval e vs)) es)) → Grown out new (offer p n (Send (record { channel = c; message = m; kinds = ks })) ∷ []) → next ≡ n + 1 → Does
    send_does {c} {m} i kinds g e = record {
      offers = λ s h.
          let q = stmt_here f at s i read h in
          let r = q.1 in
          rw r (subst (λ js. Grown out new (offer p n (Send (record { channel = c; message = m; kinds = js })) ∷ [])) (kinds q.0 q.2 q.3 ∙ ap (kind_places 4) (sym (map_map kind_of (λ e. eval e vs) q.0))) g);
      next = λ s h. omega (arith, e, ap most_fronts (stmt_here f at s i read h).1);
    }

    pub receive_does : {c m k : ℕ} {list us : List ℕ} {ks : List (Option Kind)} → x ≡ Recv c m k list → us ≡ take k list → ks ≡ kind_places 4 (target_kinds vs us) → Grown out new (offer p n (Receive (record { channel = c; message = m; kinds = ks })) ∷ []) → next ≡ n + 1 → Does
    receive_does {c} {m} i u kinds g e = record {
      offers = λ s h.
          let q = stmt_here f at s i read h in
          let r = q.1 in
          rw r (subst (λ js. Grown out new (offer p n (Receive (record { channel = c; message = m; kinds = js })) ∷ [])) (kinds ∙ ap (λ ws. kind_places 4 (target_kinds vs ws)) (u ∙ received _ _ q.0 q.2 q.3)) g);
      next = λ s h. omega (arith, e, ap most_fronts (stmt_here f at s i read h).1);
    }

    pub sequence_does : {m : ℕ} → x ≡ Seq m → Appends f (at + 3) p n vs out new next → Does
    sequence_does i g = record {
      offers = λ s h. let q = stmt_here f at s i read h in let r = q.2 in rw r (subst (Grown out new) (sym (seen_behind p n vs q.0 (q.1 ∷ []))) (g.offers q.0 q.4));
      next = λ s h. let q = stmt_here f at s i read h in omega (arith, g.next q.0 q.4, ap most_fronts q.2);
    }

    pub select_does : {m : ℕ} (mid : RecordList Offer) (border : ℕ) → x ≡ Sel m → Appends f (at + 3) p n vs out mid border → Appends f m p border vs mid new next → Does
    select_does mid border i g k = record {
      offers = λ s h.
          let q = stmt_here f at s i read h in
          let r = q.2 in
          let both = grown_both out _ _ mid new (g.offers q.0 q.4) (subst (λ j. Grown mid new (seen_fronts p j vs q.1)) (g.next q.0 q.4) (k.offers q.1 q.5)) in
          rw r (subst (Grown out new) (sym (map-append (λ (x : Front). seen p x.number vs x.does) (fronts vs n q.0) (fronts vs (n + most_fronts q.0) q.1))) both);
      next = λ s h. let q = stmt_here f at s i read h in omega (arith, g.next q.0 q.4, k.next q.1 q.5, ap most_fronts q.2);
    }

    pub open_does : {m : ℕ} {v : Val} → x ≡ Guard m → ((e : Expr) → ExprAt f (at + 3) e → v ≡ eval e vs) → is_true v ≡ true → Appends f m p n vs out new next → Does
    open_does i value t g = record {
      offers = λ s h. let q = stmt_here f at s i read h in let r = q.2 in let o = ap is_true (sym (value q.0 q.4)) ∙ t in rw (r, o) (g.offers q.1 q.5);
      next = λ s h. let q = stmt_here f at s i read h in omega (arith, g.next q.1 q.5, ap most_fronts q.2);
    }

    pub closed_does : {m k : ℕ} {v : Val} → x ≡ Guard m → ((e : Expr) → ExprAt f (at + 3) e → v ≡ eval e vs) → is_true v ≡ false → new ≡ out → ((s : Stmt) → StmtAt f m s → k ≡ most_fronts s) → next ≡ n + k → Does
    closed_does i value t u most e = record {
      offers = λ s h. let q = stmt_here f at s i read h in let r = q.2 in let o = ap is_true (sym (value q.0 q.4)) ∙ t in rw (r, o, u) (record { list = sym (append-nil (items out)); same_room = refl });
      next = λ s h. let q = stmt_here f at s i read h in omega (arith, e, most q.1 q.5, ap most_fronts q.2);
    }

    either : (v w : Val) (xs ys : List Stmt) → v ≡ w → Grown out new (offered_either v p n) → Grown out new (map (λ (x : Front). seen p x.number vs x.does) (offered (not (is_false w)) (front n internal vs xs) ++ offered (not (is_true w)) (front (n + 1) internal vs ys)))
    either v w xs ys e g = subst (Grown out new) (sym (ways p n vs vs (not (is_false w)) (not (is_true w)) xs ys)) (subst (λ z. Grown out new (offered_either z p n)) e g)

    pub branch_does : {m k : ℕ} {v : Val} → x ≡ If m k → ((e : Expr) → ExprAt f (at + 5) e → v ≡ eval e vs) → Grown out new (offered_either v p n) → next ≡ n + 2 → Does
    branch_does {v = v} i value g e = record {
      offers = λ s h. let q = stmt_here f at s i read h in let r = q.3 in rw r (either v (eval q.0 vs) (q.1 ∷ []) (q.2 ∷ []) (value q.0 q.6) g);
      next = λ s h. omega (arith, e, ap most_fronts (stmt_here f at s i read h).3);
    }

    pub loop_does : {m : ℕ} {v : Val} → x ≡ Do m → ((e : Expr) → ExprAt f (at + 3) e → v ≡ eval e vs) → Grown out new (offered_either v p n) → next ≡ n + 2 → Does
    loop_does {v = v} i value g e = record {
      offers = λ s h. let q = stmt_here f at s i read h in let r = q.2 in rw r (either v (eval q.0 vs) (q.1 ∷ loop q.0 q.1 ∷ []) [] (value q.0 q.4) g);
      next = λ s h. omega (arith, e, ap most_fronts (stmt_here f at s i read h).2);
    }
