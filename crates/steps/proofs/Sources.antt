-- The offers that a step comes from.
use Rattle.std.proofs.Common.{◌≡◌, ℕ, Bool, true, false, cond, not, ◌&&◌, eqb, List, [], map, Some, None, Option, sym, refl, ap, ◌∙◌, subst, inl, ⊎_elim, arith}
use Rattle.std.proofs.lemmas.Bool.{and_parts, and_from, eqb-true, eqb-false, eq-eqb, ne_eqb, not-true, not_from_false}
use Rattle.std.specs.List.{flat_map}
use Rattle.values.specs.declared.kind.Kind.{Kind}
use Rattle.values.specs.Values.{Val, kind_of}
use Rattle.commands.specs.Trees.{Behaviour}
use Rattle.heads.specs.Exchanges.{same_kinds}
use Rattle.admission.proofs.Exchanges.{same_kinds_from, same_kinds_refl}
use Rattle.processes.specs.Fronts.{Action, internal, sends, receives}
use Rattle.records.specs.declared.step.Step.{Step}
use Rattle.records.specs.Steps as step
use Rattle.arrivals.specs.Climbing.{climb, meeting_channel}
use Rattle.steps.specs.Steps.{Offer, over, agreed, target_kinds, internal_by, internal_steps, receive_meets, send_meets, meeting_steps, meetings, send_by, outside_sends, receive_by, outside_receives, steps_of}
use Rattle.steps.proofs.Members.{In, in_left, in_right, in_either, in_joined, joined_in}

-- an action that is a step by itself
abbrev pub Quiet : Action → Type 0
Quiet internal = Unit {0}
Quiet (sends c m xs) = ⊥
Quiet (receives c m ws) = ⊥

-- what a send out and a receive from outside come from
pub record SendsOut (b : Behaviour) (p n : ℕ) (a : Action) (s : Step) : Type 0 where
  pub channel : ℕ
  pub message : ℕ
  pub values : List Val
  pub passed : ℕ
  pub does : a ≡ sends channel message values
  pub passes : climb b p channel ≡ Some passed
  pub is : s ≡ step.outside_send p n passed message

pub record ReceivesIn (b : Behaviour) (p n : ℕ) (a : Action) (s : Step) : Type 0 where
  pub channel : ℕ
  pub message : ℕ
  pub targets : List ℕ
  pub passed : ℕ
  pub does : a ≡ receives channel message targets
  pub passes : climb b p channel ≡ Some passed
  pub is : s ≡ step.outside_receive p n passed message

-- what a receiver has to do with a sender's channel, message and kinds
pub record ReceivesFrom (b : Behaviour) (x r : Offer) (c m : ℕ) (ks : List Kind) (a : Action) (s : Step) : Type 0 where
  pub channel : ℕ
  pub message : ℕ
  pub targets : List ℕ
  pub arrived : ℕ
  pub does : a ≡ receives channel message targets
  pub different : x.process ≡ r.process → ⊥
  pub messages : m ≡ message
  pub kinds : ks ≡ target_kinds r.variables targets
  pub sender_arrives : meeting_channel b x.process r.process c ≡ Some arrived
  pub receiver_arrives : meeting_channel b r.process x.process channel ≡ Some arrived
  pub is : s ≡ step.meeting x.process x.front.number r.process r.front.number arrived m

pub record Meets (b : Behaviour) (x r : Offer) (a : Action) (s : Step) : Type 0 where
  pub channel : ℕ
  pub message : ℕ
  pub values : List Val
  pub does : a ≡ sends channel message values
  pub receiver : ReceivesFrom b x r channel message (map kind_of values) r.front.does s

-- the step of a channel
over_is : (o : Option ℕ) (f : ℕ → Step) (s : Step) → In s (over o f) → (k : ℕ) × (o ≡ Some k) × (s ≡ f k)
over_is None f s h = absurd h
over_is (Some k) f s h = ⊎_elim (λ e. (k, refl, e)) (λ n. absurd n) h

over_in : (o : Option ℕ) (f : ℕ → Step) (s : Step) (k : ℕ) → o ≡ Some k → s ≡ f k → In s (over o f)
over_in o f s k e i = subst (λ w. In s (over w f)) (sym e) (inl i)

agreed_is : (o w : Option ℕ) (k : ℕ) → agreed o w ≡ Some k → (o ≡ Some k) × (w ≡ Some k)
agreed_is None w k h = absurd (let z : ◌≡◌ {A = ℕ} 0 1 = cc in omega arith)
agreed_is (Some i) None k h = absurd (let z : ◌≡◌ {A = ℕ} 0 1 = cc in omega arith)
agreed_is (Some i) (Some j) k h = by (eqb i j) refl h
  where
    by : (t : Bool) → eqb i j ≡ t → cond t (Some i) None ≡ Some k → (Some i ≡ Some k) × (Some j ≡ Some k)
    by true e g = (g, ap (λ z. Some z) (sym (eqb-true i j e)) ∙ g)
    by false e g = absurd (let z : ◌≡◌ {A = ℕ} 0 1 = cc in omega arith)

agreed_on : (o w : Option ℕ) (k : ℕ) → o ≡ Some k → w ≡ Some k → agreed o w ≡ Some k
agreed_on o w k e f = rw (e, f, eq-eqb k k refl)

when_in : (t : Bool) (xs : List Step) (s : Step) → In s (cond t xs []) → (t ≡ true) × In s xs
when_in true xs s h = (refl, h)
when_in false xs s h = absurd h

in_when : (t : Bool) (xs : List Step) (s : Step) → t ≡ true → In s xs → In s (cond t xs [])
in_when t xs s e h = subst (λ w. In s (cond w xs [])) (sym e) h

-- each sort of step, both ways
pub internal_is : (p n : ℕ) (a : Action) (s : Step) → In s (internal_by p n a) → Quiet a × (s ≡ step.internal p n)
internal_is p n internal s h = ⊎_elim (λ e. (tt, e)) (λ k. absurd k) h
internal_is p n (sends c m xs) s h = absurd h
internal_is p n (receives c m ws) s h = absurd h

internal_in : (p n : ℕ) (a : Action) (s : Step) → Quiet a → s ≡ step.internal p n → In s (internal_by p n a)
internal_in p n internal s q e = inl e
internal_in p n (sends c m xs) s q e = absurd q
internal_in p n (receives c m ws) s q e = absurd q

module _ (b : Behaviour) where
  pub send_is : (p n : ℕ) (a : Action) (s : Step) → In s (send_by b p n a) → SendsOut b p n a s
  send_is p n internal s h = absurd h
  send_is p n (sends c m xs) s h =
      let q = over_is (climb b p c) (λ k. step.outside_send p n k m) s h in
      record { channel = c; message = m; values = xs; passed = q.0; does = refl; passes = q.1; is = q.2 }
  send_is p n (receives c m ws) s h = absurd h

  send_in : (p n : ℕ) (a : Action) (s : Step) → SendsOut b p n a s → In s (send_by b p n a)
  send_in p n a s h = subst (λ w. In s (send_by b p n w)) (sym h.does) (over_in _ (λ k. step.outside_send p n k h.message) s h.passed h.passes h.is)

  pub receive_is : (p n : ℕ) (a : Action) (s : Step) → In s (receive_by b p n a) → ReceivesIn b p n a s
  receive_is p n internal s h = absurd h
  receive_is p n (sends c m xs) s h = absurd h
  receive_is p n (receives c m ws) s h =
      let q = over_is (climb b p c) (λ k. step.outside_receive p n k m) s h in
      record { channel = c; message = m; targets = ws; passed = q.0; does = refl; passes = q.1; is = q.2 }

  receive_in : (p n : ℕ) (a : Action) (s : Step) → ReceivesIn b p n a s → In s (receive_by b p n a)
  receive_in p n a s h = subst (λ w. In s (receive_by b p n w)) (sym h.does) (over_in _ (λ k. step.outside_receive p n k h.message) s h.passed h.passes h.is)

  module _ (x r : Offer) where
    met_is : (c m : ℕ) (ks : List Kind) (a : Action) (s : Step) → In s (receive_meets b x r c m ks a) → ReceivesFrom b x r c m ks a s
    met_is c m ks internal s h = absurd h
    met_is c m ks (sends d n xs) s h = absurd h
    met_is c m ks (receives d n ws) s h =
        let w = when_in (not (eqb x.process r.process) && (eqb m n && same_kinds ks (target_kinds r.variables ws))) _ s h in
        let t = and_parts (not (eqb x.process r.process)) (eqb m n && same_kinds ks (target_kinds r.variables ws)) w.0 in
        let u = and_parts (eqb m n) (same_kinds ks (target_kinds r.variables ws)) t.1 in
        let o = over_is _ (λ k. step.meeting x.process x.front.number r.process r.front.number k m) s w.1 in
        let g = agreed_is (meeting_channel b x.process r.process c) (meeting_channel b r.process x.process d) o.0 o.1 in
        record {
          channel = d;
          message = n;
          targets = ws;
          arrived = o.0;
          does = refl;
          different = eqb-false _ _ (not-true _ t.0);
          messages = eqb-true m n u.0;
          kinds = same_kinds_from _ _ u.1;
          sender_arrives = g.0;
          receiver_arrives = g.1;
          is = o.2;
        }

    met_in : (c m : ℕ) (ks : List Kind) (a : Action) (s : Step) → ReceivesFrom b x r c m ks a s → In s (receive_meets b x r c m ks a)
    met_in c m ks a s h =
        let t : not (eqb x.process r.process) ≡ true = not_from_false _ (ne_eqb _ _ h.different) in
        let k : same_kinds ks (target_kinds r.variables h.targets) ≡ true = subst (λ w. same_kinds ks w ≡ true) h.kinds (same_kinds_refl ks) in
        let all = and_from _ _ t (and_from _ _ (eq-eqb m h.message h.messages) k) in
        subst (λ w. In s (receive_meets b x r c m ks w)) (sym h.does)
        (in_when _ _ s all (over_in _ (λ i. step.meeting x.process x.front.number r.process r.front.number i m) s h.arrived (agreed_on _ _ h.arrived h.sender_arrives h.receiver_arrives) h.is))

    pub meets_is : (a : Action) (s : Step) → In s (send_meets b x r a) → Meets b x r a s
    meets_is internal s h = absurd h
    meets_is (sends c m xs) s h = record { channel = c; message = m; values = xs; does = refl; receiver = met_is c m (map kind_of xs) r.front.does s h }
    meets_is (receives c m ws) s h = absurd h

    meets_in : (a : Action) (s : Step) → Meets b x r a s → In s (send_meets b x r a)
    meets_in a s h = subst (λ w. In s (send_meets b x r w)) (sym h.does) (met_in h.channel h.message (map kind_of h.values) r.front.does s h.receiver)

  -- a step of a list of offers
  module _ (os : List Offer) where
    pub data Comes (s : Step) : Type 0 where
      by_itself : (o : Offer) → In o os → Quiet o.front.does → s ≡ step.internal o.process o.front.number → Comes s
      in_meeting : (x r : Offer) → In x os → In r os → Meets b x r x.front.does s → Comes s
      going_out : (o : Offer) → In o os → SendsOut b o.process o.front.number o.front.does s → Comes s
      coming_in : (o : Offer) → In o os → ReceivesIn b o.process o.front.number o.front.does s → Comes s

    pub meeting_comes : (s : Step) (x : Offer) → In s (meetings b os x) → (r : Offer) × In r os × Meets b x r x.front.does s
    unfolding meetings
    meeting_comes s x h = let q = in_joined (meeting_steps b x) s os h in (q.0, q.1, meets_is x q.0 x.front.does s q.2)

    comes_meeting : (s : Step) (x r : Offer) → In r os → Meets b x r x.front.does s → In s (meetings b os x)
    unfolding meetings
    comes_meeting s x r h k = joined_in (meeting_steps b x) s r os h (meets_in x r x.front.does s k)

    pub step_comes : (s : Step) → In s (steps_of b os) → Comes s
    unfolding steps_of
    step_comes s h =
        ⊎_elim
        (λ k. let q = in_joined internal_steps s os k in let i = internal_is _ _ q.0.front.does s q.2 in by_itself q.0 q.1 i.0 i.1)
        (λ h₁. ⊎_elim
        (λ k. let q = in_joined (meetings b os) s os k in let i = meeting_comes s q.0 q.2 in in_meeting q.0 i.0 q.1 i.1 i.2)
        (λ h₂. ⊎_elim
        (λ k. let q = in_joined (outside_sends b) s os k in going_out q.0 q.1 (send_is _ _ _ s q.2))
        (λ k. let q = in_joined (outside_receives b) s os k in coming_in q.0 q.1 (receive_is _ _ _ s q.2))
        (in_either s (flat_map (outside_sends b) os) (flat_map (outside_receives b) os) h₂))
        (in_either s (flat_map (meetings b os) os) _ h₁))
        (in_either s (flat_map internal_steps os) _ h)

    pub comes_step : (s : Step) → Comes s → In s (steps_of b os)
    unfolding steps_of
    comes_step s (by_itself o h q e) = in_left s (flat_map internal_steps os) _ (joined_in internal_steps s o os h (internal_in _ _ _ s q e))
    comes_step s (in_meeting x r h k q) =
        in_right s (flat_map internal_steps os) _ (in_left s (flat_map (meetings b os) os) _ (joined_in (meetings b os) s x os h (comes_meeting s x r k q)))
    comes_step s (going_out o h q) =
        in_right s (flat_map internal_steps os) _ (in_right s (flat_map (meetings b os) os) _
        (in_left s (flat_map (outside_sends b) os) _ (joined_in (outside_sends b) s o os h (send_in _ _ _ s q))))
    comes_step s (coming_in o h q) =
        in_right s (flat_map internal_steps os) _ (in_right s (flat_map (meetings b os) os) _
        (in_right s (flat_map (outside_sends b) os) _ (joined_in (outside_receives b) s o os h (receive_in _ _ _ s q))))
