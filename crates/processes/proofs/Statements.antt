-- The front of a number of each statement, from what the code finds at its place.
use Rattle.std.proofs.Common.{◌≡◌, ℕ, suc, ◌+◌, ◌-◌, ◌<◌, ◌≤◌, true, false, not, List, [], ◌∷◌, ◌++◌, map, length, set, take, replicate, None, Option, sym, refl, ap, ◌∙◌, subst, arith}
use Rattle.std.proofs.lemmas.List.{take_at, map-append}
use Rattle.commands.specs.Bytes.{padded}
use Rattle.values.specs.declared.row.Row.{Row}
use Rattle.values.specs.Rows.{value_of_row}
use Rattle.values.specs.declared.kind.Kind.{Kind}
use Rattle.values.specs.Values.{Val}
use Rattle.commands.specs.Depths.{stmt_depth}
use Rattle.commands.specs.Stands.{StmtAt}
use Rattle.commands.specs.Trees.{Expr, Stmt, skip, assign, send, receive, sequence, select, guard, branch, loop, Declaration}
use Rattle.admission.specs.Conditions.{most_fronts}
use Rattle.processes.specs.declared.front.Action.TheVariants.{Internal, Store, Send, Receive}
use Rattle.processes.specs.declared.front.Front.{Front as FrontC}
use Rattle.values.specs.declared.few.Few.{Few}
use Rattle.processes.specs.declared.left.Left.{Left}
use Rattle.processes.specs.Evaluation.{eval}
use Rattle.processes.specs.Found.{Answers, StmtsAt, front_numbered, one_front, two_fronts, values_in, variables_in, Ready, Standing}
use Rattle.processes.specs.Fronts.{internal, sends, receives, Front, front, is_true, is_false, offered, behind, fronts}
use Rattle.processes.specs.Places.{places_of}
use Rattle.processes.proofs.Behind.{twice, behind_ways}
use Rattle.processes.proofs.Numbered.{numbered_before}
use Rattle.processes.proofs.Numbers.{in_first, in_second, one_found, two_found}

-- the variables of a RECV among its four bytes
pub received : (n : ℕ) (list ws : List ℕ) → n ≡ length ws → list ≡ padded ws → take n list ≡ ws
received n list ws p q = rw (p, q) (take_at ws (replicate (4 - length ws) 255) (length ws) refl)

module _ (f : List ℕ) where
  pub counted : (ps : List ℕ) (ss : List Stmt) → StmtsAt f ps ss → length ps ≡ length ss
  counted [] [] h = refl
  counted [] (s ∷ ss) h = absurd h
  counted (p ∷ ps) [] h = absurd h
  counted (p ∷ ps) (s ∷ ss) h = ap suc (counted ps ss h.1)

  -- what remains of a process, by its first statement
  pub standing_ready : (left : Left) (ks : List Kind) (ds : List Declaration) (at : ℕ) (rest : Left) (ss : List Stmt) → Standing f left ks ds ss → at ∷ places_of rest ≡ places_of left → (s : Stmt) × (after : List Stmt) × (ss ≡ s ∷ after) × Ready f at rest s after
  standing_ready left ks ds at rest [] h e = absurd (subst (λ ps. StmtsAt f ps []) (sym e) h.places)
  standing_ready left ks ds at rest (s ∷ after) h e =
      let p = subst (λ ps. StmtsAt f ps (s ∷ after)) (sym e) h.places in
      (s, after, refl, record { short = h.short; here = p.0; behind = p.1; kept = (ks, ds, h.kept.0); room = h.room })

  module _ (at : ℕ) (rest : Left) (ss : List Stmt) where
    -- two more places are free where a statement has parts
    pub has_room : (s : Stmt) → Ready f at rest s ss → 2 ≤ stmt_depth s → length (places_of rest) + 2 ≤ 32
    has_room s h d = omega (arith, counted (places_of rest) ss h.behind, h.room.0, d)

    pub before : (m : ℕ) (next : Left) (s : Stmt) → places_of next ≡ m ∷ places_of rest → StmtAt f m s → StmtsAt f (places_of rest) ss → StmtsAt f (places_of next) (s ∷ ss)
    before m next s e h b = subst (λ ps. StmtsAt f ps (s ∷ ss)) (sym e) (h, b)

    pub sequence_ready : (a b : Stmt) (m : ℕ) (next : Left) → places_of next ≡ m ∷ places_of rest → Ready f at rest (sequence a b) ss → StmtAt f (at + 3) a → StmtAt f m b → Ready f (at + 3) next a (b ∷ ss)
    sequence_ready a b m next e h p q = record {
      short = h.short;
      here = p;
      behind = before m next b e q h.behind;
      kept = (h.kept.0, h.kept.1, h.kept.2.0);
      room = (omega (arith, h.room.0), (omega (arith, h.room.0), h.room.1));
    }

    pub first_ready : (a b : Stmt) → Ready f at rest (select a b) ss → StmtAt f (at + 3) a → Ready f (at + 3) rest a ss
    first_ready a b h p = record {
      short = h.short;
      here = p;
      behind = h.behind;
      kept = (h.kept.0, h.kept.1, h.kept.2.1);
      room = (omega (arith, h.room.0), h.room.1);
    }

    pub second_ready : (a b : Stmt) (m : ℕ) → Ready f at rest (select a b) ss → StmtAt f m b → Ready f m rest b ss
    second_ready a b m h p = record {
      short = h.short;
      here = p;
      behind = h.behind;
      kept = (h.kept.0, h.kept.1, h.kept.2.2);
      room = (omega (arith, h.room.0), h.room.1);
    }

    pub guard_ready : (e : Expr) (a : Stmt) (m : ℕ) → Ready f at rest (guard e a) ss → StmtAt f m a → Ready f m rest a ss
    guard_ready e a m h p = record {
      short = h.short;
      here = p;
      behind = h.behind;
      kept = (h.kept.0, h.kept.1, h.kept.2.1);
      room = (omega (arith, h.room.0), h.room.1);
    }

    module _ (vs : List Val) (n : ℕ) (r : Option FrontC) (s : Stmt) (k : ℕ) where
      abbrev pub FoundAt : Type 0
      FoundAt = Answers f vs r (front_numbered (k + n) (map (behind ss) (fronts vs k s)))

      pub skip_found : r ≡ one_front n Internal rest → s ≡ skip → Ready f at rest s ss → FoundAt
      skip_found e p h = rw (e, p) (one_found f vs k n Internal rest (front k internal vs ss) refl (record { does = refl; variables = refl; leaves = h.behind }))

      pub set_found : (v : ℕ) (row : Row) (x : Expr) → r ≡ one_front n (Store v row) rest → s ≡ assign v x → value_of_row row ≡ eval x vs → Ready f at rest s ss → FoundAt
      set_found v row x e p q h = rw (e, p) (one_found f vs k n (Store v row) rest (front k internal (set vs v (eval x vs)) ss) refl (record { does = refl; variables = ap (set vs v) q; leaves = h.behind }))

      pub send_found : (c m : ℕ) (sent : Few Row 4) (es : List Expr) → r ≡ one_front n (Send c m sent) rest → s ≡ send c m es → values_in sent ≡ map (λ e. eval e vs) es → Ready f at rest s ss → FoundAt
      send_found c m sent es e p q h = rw (e, p) (one_found f vs k n (Send c m sent) rest (front k (sends c m (map (λ e. eval e vs) es)) vs ss) refl (record { does = ap (λ w. sends c m w) q; variables = refl; leaves = h.behind }))

      pub receive_found : (c m : ℕ) (targets : Few ℕ 4) (ws : List ℕ) → r ≡ one_front n (Receive c m targets) rest → s ≡ receive c m ws → variables_in targets ≡ ws → Ready f at rest s ss → FoundAt
      receive_found c m targets ws e p q h = rw (e, p) (one_found f vs k n (Receive c m targets) rest (front k (receives c m ws) vs ss) refl (record { does = ap (λ w. receives c m w) q; variables = refl; leaves = h.behind }))

      pub sequence_found : (a b : Stmt) → s ≡ sequence a b → Answers f vs r (front_numbered (k + n) (map (behind (b ∷ ss)) (fronts vs k a))) → FoundAt
      sequence_found a b p i = rw p (subst (λ fs. Answers f vs r (front_numbered (k + n) fs)) (sym (twice (b ∷ []) ss (fronts vs k a))) i)

      both_found : (a b : Stmt) → s ≡ select a b → Answers f vs r (front_numbered (k + n) (map (behind ss) (fronts vs k a) ++ map (behind ss) (fronts vs (k + most_fronts a) b))) → FoundAt
      both_found a b p i = rw p (subst (λ fs. Answers f vs r (front_numbered (k + n) fs)) (sym (map-append (behind ss) (fronts vs k a) (fronts vs (k + most_fronts a) b))) i)

      pub first_found : (a b : Stmt) → s ≡ select a b → n < most_fronts a → Answers f vs r (front_numbered (k + n) (map (behind ss) (fronts vs k a))) → FoundAt
      first_found a b p l i =
          let here = in_first (k + n) (k + most_fronts a) (k + most_fronts a + most_fronts b) (map (behind ss) (fronts vs k a)) (map (behind ss) (fronts vs (k + most_fronts a) b)) (numbered_before vs (k + most_fronts a) b ss) (omega (arith, l)) in
          both_found a b p (subst (Answers f vs r) (sym here) i)

      pub second_found : (a b : Stmt) (m : ℕ) → s ≡ select a b → m ≡ most_fronts a → m ≤ n → Answers f vs r (front_numbered (k + most_fronts a + (n - m)) (map (behind ss) (fronts vs (k + most_fronts a) b))) → FoundAt
      second_found a b m p is l i =
          let here = in_second (k + n) k (k + most_fronts a) (map (behind ss) (fronts vs k a)) (map (behind ss) (fronts vs (k + most_fronts a) b)) (numbered_before vs k a ss) (omega (arith, is, l)) in
          let same : k + most_fronts a + (n - m) ≡ k + n = omega (arith, is, l) in
          both_found a b p (subst (Answers f vs r) (sym here) (subst (λ j. Answers f vs r (front_numbered j (map (behind ss) (fronts vs (k + most_fronts a) b)))) same i))

      pub open_found : (e : Expr) (a : Stmt) → s ≡ guard e a → is_true (eval e vs) ≡ true → Answers f vs r (front_numbered (k + n) (map (behind ss) (fronts vs k a))) → FoundAt
      open_found e a p t i = rw (p, t) i

      pub closed_found : (e : Expr) (a : Stmt) → s ≡ guard e a → is_true (eval e vs) ≡ false → r ≡ None → FoundAt
      closed_found e a p t i = rw (p, t, i) tt

      either_found : (e : Expr) (u w : Front) (x y : Left) →
          Answers f vs (two_fronts (eval e vs) n x y) (front_numbered (k + n) (offered (not (is_false (eval e vs))) (behind ss u) ++ offered (not (is_true (eval e vs))) (behind ss w)))
          → Answers f vs (two_fronts (eval e vs) n x y) (front_numbered (k + n) (map (behind ss) (offered (not (is_false (eval e vs))) u ++ offered (not (is_true (eval e vs))) w)))
      either_found e u w x y i = subst (λ fs. Answers f vs (two_fronts (eval e vs) n x y) (front_numbered (k + n) fs)) (sym (behind_ways ss _ _ u w)) i

      pub branch_found : (v : Val) (e : Expr) (a b : Stmt) (i j : ℕ) (x y : Left) → r ≡ two_fronts v n x y → v ≡ eval e vs → s ≡ branch e a b → places_of x ≡ i ∷ places_of rest → places_of y ≡ j ∷ places_of rest → StmtAt f i a → StmtAt f j b → Ready f at rest s ss → FoundAt
      branch_found v e a b i j x y is w p g d sa sb h =
          rw (is, w, p) (either_found e (front k internal vs (a ∷ [])) (front (k + 1) internal vs (b ∷ [])) x y (two_found f vs k x y (front k internal vs (a ∷ ss)) (front (k + 1) internal vs (b ∷ ss)) refl refl
          (record { does = refl; variables = refl; leaves = before i x a g sa h.behind })
          (record { does = refl; variables = refl; leaves = before j y b d sb h.behind }) n (eval e vs)))

      pub loop_found : (v : Val) (e : Expr) (a : Stmt) (i : ℕ) (again x : Left) → r ≡ two_fronts v n x rest → v ≡ eval e vs → s ≡ loop e a → places_of again ≡ at ∷ places_of rest → places_of x ≡ i ∷ places_of again → StmtAt f i a → Ready f at rest s ss → FoundAt
      loop_found v e a i again x is w p g d sa h =
          let both : StmtsAt f (i ∷ at ∷ places_of rest) (a ∷ s ∷ ss) = (sa, (h.here, h.behind)) in
          let all : StmtsAt f (places_of x) (a ∷ loop e a ∷ ss) = subst (λ u. StmtsAt f (places_of x) (a ∷ u ∷ ss)) p (subst (λ ps. StmtsAt f ps (a ∷ s ∷ ss)) (sym (d ∙ ap (λ ps. i ∷ ps) g)) both) in
          rw (is, w, p) (either_found e (front k internal vs (a ∷ loop e a ∷ [])) (front (k + 1) internal vs []) x rest (two_found f vs k x rest (front k internal vs (a ∷ loop e a ∷ ss)) (front (k + 1) internal vs ss) refl refl
          (record { does = refl; variables = refl; leaves = all })
          (record { does = refl; variables = refl; leaves = h.behind }) n (eval e vs)))
