-- There is no step exactly when the model is at rest.
use Rattle.std.proofs.Common.{◌≡◌, ℕ, List, [], ◌∷◌, map, Some, sym, refl, ap, ◌∙◌, subst, inl, inr, ⊎_elim, arith}
use Rattle.std.specs.List.{slice_get}
use Rattle.values.specs.Values.{Val, kind_of}
use Rattle.commands.specs.Trees.{Expr, Stmt, skip, assign, send, receive, sequence, select, guard, branch, loop}
use Rattle.processes.specs.Evaluation.{eval}
use Rattle.processes.specs.Fronts.{Action, internal, sends, receives}
use Rattle.processes.specs.Waiting.{Place, at_guard, at_command, ProcessWaits}
use Rattle.records.specs.declared.step.Step.{Step}
use Rattle.records.specs.Steps as step
use Rattle.arrivals.proofs.Meeting.{meeting_laws}
use Rattle.arrivals.proofs.Rooted.{root_laws}
use Rattle.steps.specs.Kept.{ModelKept}
use Rattle.steps.specs.Laws.{RestLaws}
use Rattle.steps.specs.Models.{Process, Model}
use Rattle.steps.specs.Resting.{WaitsAt, value_kinds, Meet, Outside, RestsAt, AtRest}
use Rattle.steps.specs.Steps.{Offer, offers, steps, target_kinds}
use Rattle.steps.proofs.Arriving.{sender_meets, receiver_meets}
use Rattle.steps.proofs.Members.{none_empty, empty_none}
use Rattle.steps.proofs.Offered.{offer, front_offered, OfferOf, offer_of}
use Rattle.steps.proofs.Sources.{Quiet, Comes, by_itself, in_meeting, going_out, coming_in, step_comes, comes_step}
use Rattle.steps.proofs.Waited.{Does, WaitFor, waiting_front, front_waiting}

kinds_sent : (vs : List Val) (es : List Expr) → value_kinds vs es ≡ map kind_of (map (λ e. eval e vs) es)
kinds_sent vs [] = refl
kinds_sent vs (e ∷ es) = ap (λ ks. kind_of (eval e vs) ∷ ks) (kinds_sent vs es)

-- a model without steps
module _ (m : Model) (none : (s : Step) → Comes m.behaviour (offers m) s → ⊥) where
  no_meeting : (p : ℕ) (one : Process) (c n : ℕ) (es : List Expr) (q : ℕ) (other : Process) (d l : ℕ) (ws : List ℕ) → WaitsAt m p one (send c n es) → WaitsAt m q other (receive d l ws) → Meet m p one c n es q other d l ws → ⊥
  no_meeting p one c n es q other d l ws x r h =
      let f = waiting_front one.variables one.left (send c n es) x.waits in
      let g = waiting_front other.variables other.left (receive d l ws) r.waits in
      none (step.meeting p f.front.number q g.front.number h.arrive.0 n)
      (in_meeting (offer p one f.front) (offer q other g.front)
      (front_offered m p one f.front x.numbered f.here) (front_offered m q other g.front r.numbered g.here)
      (record {
        channel = c;
        message = n;
        values = map (λ e. eval e one.variables) es;
        does = f.does;
        receiver = record {
          channel = d;
          message = l;
          targets = ws;
          arrived = h.arrive.0;
          does = g.does;
          different = h.different;
          messages = h.messages;
          kinds = sym (kinds_sent one.variables es) ∙ h.kinds;
          sender_arrives = meeting_laws.is_arrival m.behaviour p q c h.arrive.0 h.arrive.1;
          receiver_arrives = meeting_laws.is_arrival m.behaviour q p d h.arrive.0 h.arrive.2;
          is = refl;
        };
      }))

  module _ (p : ℕ) (one : Process) (numbered : slice_get m.processes p ≡ Some one) where
    no_send : (c n : ℕ) (es : List Expr) → ProcessWaits one.variables one.left (at_command (send c n es)) → Outside m p c → ⊥
    no_send c n es w o =
        let f = waiting_front one.variables one.left (send c n es) w in
        none (step.outside_send p f.front.number o.0 n)
        (going_out (offer p one f.front) (front_offered m p one f.front numbered f.here)
        (record { channel = c; message = n; values = map (λ e. eval e one.variables) es; passed = o.0; does = f.does; passes = root_laws.is_passed m.behaviour p c o.0 o.1; is = refl }))

    no_receive : (d n : ℕ) (ws : List ℕ) → ProcessWaits one.variables one.left (at_command (receive d n ws)) → Outside m p d → ⊥
    no_receive d n ws w o =
        let f = waiting_front one.variables one.left (receive d n ws) w in
        none (step.outside_receive p f.front.number o.0 n)
        (coming_in (offer p one f.front) (front_offered m p one f.front numbered f.here)
        (record { channel = d; message = n; targets = ws; passed = o.0; does = f.does; passes = root_laws.is_passed m.behaviour p d o.0 o.1; is = refl }))

    quiet_at : (t : Stmt) → ProcessWaits one.variables one.left (at_command t) → ((a : Action) → Does one.variables t a → Quiet a) → ⊥
    quiet_at t w q =
        let f = waiting_front one.variables one.left t w in
        none (step.internal p f.front.number) (by_itself (offer p one f.front) (front_offered m p one f.front numbered f.here) (q _ f.does) refl)

    rests_at : (t : Stmt) → ProcessWaits one.variables one.left (at_command t) → RestsAt m p one (at_command t)
    rests_at skip w = quiet_at skip w (λ a e. subst Quiet (sym e) tt)
    rests_at (assign v x) w = quiet_at (assign v x) w (λ a e. subst Quiet (sym e) tt)
    rests_at (send c n es) w =
        λ h. ⊎_elim (no_send c n es w) (λ k. no_meeting p one c n es k.0 k.1 k.2 k.3 k.4 (record { numbered = numbered; waits = w }) k.5 k.6) h
    rests_at (receive d n ws) w =
        λ h. ⊎_elim (no_receive d n ws w) (λ k. no_meeting k.0 k.1 k.2 k.3 k.4 p one d n ws k.5 (record { numbered = numbered; waits = w }) k.6) h
    rests_at (sequence a b) w = quiet_at (sequence a b) w (λ x e. absurd e)
    rests_at (select a b) w = quiet_at (select a b) w (λ x e. absurd e)
    rests_at (guard x a) w = quiet_at (guard x a) w (λ y e. absurd e)
    rests_at (branch x a b) w = quiet_at (branch x a b) w (λ y e. subst Quiet (sym e) tt)
    rests_at (loop x a) w = quiet_at (loop x a) w (λ y e. subst Quiet (sym e) tt)

    rests : (w : Place) → ProcessWaits one.variables one.left w → RestsAt m p one w
    rests (at_guard e) h = tt
    rests (at_command t) h = rests_at t h

none_rests : (m : Model) → steps m ≡ [] → AtRest m
none_rests m e p one w numbered h = rests m (λ s c. empty_none s (steps m) e (comes_step m.behaviour (offers m) s c)) p one numbered w h

-- the command of a front, by what the front does
module _ (vs : List Val) where
  clash : {A : Type 0} (a b : Action) → a ≡ b → Quiet a → (Quiet b → ⊥) → A
  clash a b e q n = absurd (n (subst Quiet e q))

  send_at : (t : Stmt) (a : Action) (c n : ℕ) (xs : List Val) → Does vs t a → a ≡ sends c n xs → (es : List Expr) × (t ≡ send c n es) × (map (λ e. eval e vs) es ≡ xs)
  send_at skip a c n xs d e = clash internal (sends c n xs) (sym d ∙ e) tt (λ q. q)
  send_at (assign v x) a c n xs d e = clash internal (sends c n xs) (sym d ∙ e) tt (λ q. q)
  send_at (send c' n' es) a c n xs d e =
      let k : sends c' n' (map (λ x. eval x vs) es) ≡ sends c n xs = sym d ∙ e in
      let i : c' ≡ c = cc k in
      let j : n' ≡ n = cc k in
      let l : map (λ x. eval x vs) es ≡ xs = cc k in
      (es, ap (λ z. send z n' es) i ∙ ap (λ z. send c z es) j, l)
  send_at (receive d' n' ws) a c n xs d e = let k : receives d' n' ws ≡ sends c n xs = sym d ∙ e in absurd (let z : ◌≡◌ {A = ℕ} 0 1 = cc k in omega arith)
  send_at (sequence x y) a c n xs d e = absurd d
  send_at (select x y) a c n xs d e = absurd d
  send_at (guard x y) a c n xs d e = absurd d
  send_at (branch x y z) a c n xs d e = clash internal (sends c n xs) (sym d ∙ e) tt (λ q. q)
  send_at (loop x y) a c n xs d e = clash internal (sends c n xs) (sym d ∙ e) tt (λ q. q)

  receive_at : (t : Stmt) (a : Action) (c n : ℕ) (ws : List ℕ) → Does vs t a → a ≡ receives c n ws → t ≡ receive c n ws
  receive_at skip a c n ws d e = clash internal (receives c n ws) (sym d ∙ e) tt (λ q. q)
  receive_at (assign v x) a c n ws d e = clash internal (receives c n ws) (sym d ∙ e) tt (λ q. q)
  receive_at (send c' n' es) a c n ws d e =
      let k : sends c' n' (map (λ x. eval x vs) es) ≡ receives c n ws = sym d ∙ e in absurd (let z : ◌≡◌ {A = ℕ} 0 1 = cc k in omega arith)
  receive_at (receive d' n' us) a c n ws d e =
      let k : receives d' n' us ≡ receives c n ws = sym d ∙ e in
      let i : d' ≡ c = cc k in
      let j : n' ≡ n = cc k in
      let l : us ≡ ws = cc k in
      ap (λ z. receive z n' us) i ∙ ap (λ z. receive c z us) j ∙ ap (λ z. receive c n z) l
  receive_at (sequence x y) a c n ws d e = absurd d
  receive_at (select x y) a c n ws d e = absurd d
  receive_at (guard x y) a c n ws d e = absurd d
  receive_at (branch x y z) a c n ws d e = clash internal (receives c n ws) (sym d ∙ e) tt (λ q. q)
  receive_at (loop x y) a c n ws d e = clash internal (receives c n ws) (sym d ∙ e) tt (λ q. q)

-- a model at rest
module _ (m : Model) (rest : AtRest m) where
  quiet_rests : (p : ℕ) (one : Process) (t : Stmt) (a : Action) → Does one.variables t a → Quiet a → RestsAt m p one (at_command t) → ⊥
  quiet_rests p one skip a d q r = r
  quiet_rests p one (assign v x) a d q r = r
  quiet_rests p one (send c n es) a d q r = subst Quiet d q
  quiet_rests p one (receive c n ws) a d q r = subst Quiet d q
  quiet_rests p one (sequence x y) a d q r = r
  quiet_rests p one (select x y) a d q r = r
  quiet_rests p one (guard x y) a d q r = r
  quiet_rests p one (branch x y z) a d q r = r
  quiet_rests p one (loop x y) a d q r = r

  module _ (o : Offer) (i : OfferOf m o) where
    wait : WaitFor i.one.variables (ProcessWaits i.one.variables i.one.left) o.front
    wait = front_waiting i.one.variables i.one.left o.front i.front

    no_internal : Quiet o.front.does → ⊥
    no_internal q = quiet_rests o.process i.one wait.command o.front.does wait.does q (rest o.process i.one (at_command wait.command) i.numbered wait.waits)

    sends_at : (c n : ℕ) (xs : List Val) → o.front.does ≡ sends c n xs → (es : List Expr) × WaitsAt m o.process i.one (send c n es) × (map (λ e. eval e i.one.variables) es ≡ xs)
    sends_at c n xs e =
        let q = send_at i.one.variables wait.command o.front.does c n xs wait.does e in
        (q.0, record { numbered = i.numbered; waits = subst (λ t. ProcessWaits i.one.variables i.one.left (at_command t)) q.1 wait.waits }, q.2)

    receives_at : (c n : ℕ) (ws : List ℕ) → o.front.does ≡ receives c n ws → WaitsAt m o.process i.one (receive c n ws)
    receives_at c n ws e =
        let q = receive_at i.one.variables wait.command o.front.does c n ws wait.does e in
        record { numbered = i.numbered; waits = subst (λ t. ProcessWaits i.one.variables i.one.left (at_command t)) q wait.waits }

  no_step : ModelKept m → (s : Step) → Comes m.behaviour (offers m) s → ⊥
  no_step kept s (by_itself o h q e) = no_internal o (offer_of m o h) q
  no_step kept s (in_meeting x r h l q) =
      let i = offer_of m x h in
      let j = offer_of m r l in
      let k = q.receiver in
      let f = sends_at x i q.channel q.message q.values q.does in
      let g = receives_at r j k.channel k.message k.targets k.does in
      let kinds = kinds_sent i.one.variables f.0 ∙ ap (λ xs. map kind_of xs) f.2 ∙ k.kinds ∙ ap (λ vs. target_kinds vs k.targets) j.variables in
      rest x.process i.one (at_command (send q.channel q.message f.0)) i.numbered f.1.waits
      (inr (r.process, j.one, k.channel, k.message, k.targets, g, record { different = k.different; messages = k.messages; kinds = kinds; arrive = (k.arrived, sender_meets m kept x r s i j q, receiver_meets m kept x r s i j q) }))
  no_step kept s (going_out o h q) =
      let i = offer_of m o h in
      let f = sends_at o i q.channel q.message q.values q.does in
      rest o.process i.one (at_command (send q.channel q.message f.0)) i.numbered f.1.waits (inl (q.passed, root_laws.passes m.behaviour o.process q.channel q.passed q.passes))
  no_step kept s (coming_in o h q) =
      let i = offer_of m o h in
      let f = receives_at o i q.channel q.message q.targets q.does in
      rest o.process i.one (at_command (receive q.channel q.message q.targets)) i.numbered f.waits (inl (q.passed, root_laws.passes m.behaviour o.process q.channel q.passed q.passes))

rest_none : (m : Model) → ModelKept m → AtRest m → steps m ≡ []
rest_none m kept rest = none_empty (steps m) (λ s h. no_step m rest kept s (step_comes m.behaviour (offers m) s h))

pub rest_laws : RestLaws
rest_laws = record { none_rests = none_rests; rest_none = rest_none }
