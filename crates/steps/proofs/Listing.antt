-- How many steps there are, that none is listed twice, and which stand first.
use Rattle.std.proofs.Common.{◌≡◌, ℕ, ◌+◌, ◌*◌, ◌≤◌, Bool, true, false, cond, not, ◌&&◌, eqb, List, [], ◌∷◌, map, length, Some, None, Option, sym, ap, ◌∙◌, ⊎_elim, arith, length-append}
use Rattle.std.proofs.lemmas.List.{length-map}
use Rattle.std.specs.List.{flat_map, AllByRecursion}
use Rattle.values.specs.declared.kind.Kind.{Kind}
use Rattle.values.specs.Values.{Val, kind_of}
use Rattle.commands.specs.Trees.{Stmt, Behaviour, Class}
use Rattle.heads.specs.Exchanges.{same_kinds}
use Rattle.admission.specs.Conditions.{ClassKept}
use Rattle.processes.proofs.Kept.{part_kept, few_fronts}
use Rattle.processes.proofs.Numbered.{numbered_before}
use Rattle.processes.specs.Classes.{ProcessOf}
use Rattle.processes.specs.Fronts.{Action, internal, sends, receives, Front, process_fronts}
use Rattle.processes.specs.Laws.{Ascend}
use Rattle.records.specs.declared.step.Step.{Step}
use Rattle.records.specs.Steps as step
use Rattle.arrivals.specs.Climbing.{meeting_channel}
use Rattle.steps.specs.Kept.{ProcessKept, ModelKept}
use Rattle.steps.specs.Laws.{ListingLaws}
use Rattle.steps.specs.Models.{Process, Model, class_numbered}
use Rattle.steps.specs.Steps.{Offer, offers_from, offers, over, agreed, target_kinds, internal_by, internal_steps, receive_meets, send_meets, meeting_steps, meetings, send_by, outside_sends, receive_by, outside_receives, steps_of, steps}
use Rattle.steps.proofs.Bound.{steps_fit}
use Rattle.steps.proofs.Closed.{closed_first}
use Rattle.steps.proofs.Listed.{listed_in, in_listed}
use Rattle.steps.proofs.Members.{In, in_either, in_place, place_in, in_joined, Apart, Same, apart_append, apart_joined, apart_places}
use Rattle.steps.proofs.Numbered.{processes_exist}
use Rattle.steps.proofs.Offered.{SameFront, offers_apart}
use Rattle.steps.proofs.Sources.{internal_is, send_is, receive_is, meets_is, meeting_comes}
use Rattle.steps.proofs.Staying.{class_kept}

-- at most 8 fronts of a process, and 64 of all
long : (from below : ℕ) (xs : List Front) → Ascend from xs below → from + length xs ≤ below
long from below [] a = omega (arith, a)
long from below (x ∷ xs) a = omega (arith, a.0, long (x.number + 1) below xs a.1)

few_of : (c : Class) (vs : List Val) (left : List Stmt) → ClassKept c → ProcessOf c vs left → length (process_fronts vs left) ≤ 8
few_of c vs [] k h = omega arith
few_of c vs (s ∷ rest) k h =
    let own = part_kept (map kind_of c.variables) c.declarations c.statement s k.statement_kept h.parts.0 in
    omega (arith, long 0 _ _ (numbered_before vs 0 s rest), few_fronts _ _ s own)

few_offers : (cs : List Class) → AllByRecursion ClassKept cs → (p : ℕ) (ps : List Process) → AllByRecursion (ProcessKept cs) ps → length (offers_from p ps) ≤ 8 * length ps
few_offers cs k p [] a = omega arith
few_offers cs k p (one ∷ others) a =
    let c = class_numbered cs one.class in
    let here = few_of c one.variables one.left (class_kept cs one.class k a.0.of_class) a.0.process in
    let more = few_offers cs k (p + 1) others a.1 in
    simp (length-append, length-map) (omega arith)

bounded : (m : Model) → ModelKept m → length (steps m) ≤ 1088
bounded m k = steps_fit m.behaviour (offers m) (omega (arith, few_offers m.classes k.classes_kept 0 m.processes k.processes_kept, k.few))

-- lists of at most one step
over_apart : (o : Option ℕ) (f : ℕ → Step) → Apart Same (over o f)
over_apart None f = tt
over_apart (Some k) f = (λ y h e. h, tt)

when_apart : (t : Bool) (xs : List Step) → Apart Same xs → Apart Same (cond t xs [])
when_apart true xs a = a
when_apart false xs a = tt

internal_apart : (p n : ℕ) (a : Action) → Apart Same (internal_by p n a)
internal_apart p n internal = (λ y h e. h, tt)
internal_apart p n (sends c m xs) = tt
internal_apart p n (receives c m ws) = tt

module _ (b : Behaviour) where
  send_apart : (p n : ℕ) (a : Action) → Apart Same (send_by b p n a)
  send_apart p n internal = tt
  send_apart p n (sends c m xs) = over_apart _ _
  send_apart p n (receives c m ws) = tt

  receive_apart : (p n : ℕ) (a : Action) → Apart Same (receive_by b p n a)
  receive_apart p n internal = tt
  receive_apart p n (sends c m xs) = tt
  receive_apart p n (receives c m ws) = over_apart _ _

  met_apart : (x r : Offer) (c m : ℕ) (ks : List Kind) (a : Action) → Apart Same (receive_meets b x r c m ks a)
  met_apart x r c m ks internal = tt
  met_apart x r c m ks (sends d n xs) = tt
  met_apart x r c m ks (receives d n ws) =
      when_apart (not (eqb x.process r.process) && (eqb m n && same_kinds ks (target_kinds r.variables ws))) _
      (over_apart (agreed (meeting_channel b x.process r.process c) (meeting_channel b r.process x.process d)) (λ k. step.meeting x.process x.front.number r.process r.front.number k m))

  meets_apart : (x r : Offer) (a : Action) → Apart Same (send_meets b x r a)
  meets_apart x r internal = tt
  meets_apart x r (sends c m xs) = met_apart x r c m (map kind_of xs) r.front.does
  meets_apart x r (receives c m ws) = tt

  -- a step tells the offers that it comes from
  module _ (os : List Offer) (apart : Apart SameFront os) where
    meetings_apart : (x : Offer) → Apart Same (meetings b os x)
    unfolding meetings
    meetings_apart x =
        apart_joined SameFront (meeting_steps b x) (λ r. meets_apart x r x.front.does)
        (λ s r q h k.
        let i = (meets_is b x r x.front.does s h).receiver.is in
        let j = (meets_is b x q x.front.does s k).receiver.is in
        record { process = ap (λ z. z.partner) (sym i ∙ j); front = ap (λ z. z.partner_front) (sym i ∙ j) })
        os apart

    all_internal : Apart Same (flat_map internal_steps os)
    all_internal =
        apart_joined SameFront internal_steps (λ o. internal_apart _ _ o.front.does)
        (λ s r q h k.
        let e = sym (internal_is _ _ r.front.does s h).1 ∙ (internal_is _ _ q.front.does s k).1 in
        record { process = ap (λ z. z.process) e; front = ap (λ z. z.front) e })
        os apart

    all_meetings : Apart Same (flat_map (meetings b os) os)
    all_meetings =
        apart_joined SameFront (meetings b os) meetings_apart
        (λ s r q h k.
        let e = sym (meeting_comes b os s r h).2.receiver.is ∙ (meeting_comes b os s q k).2.receiver.is in
        record { process = ap (λ z. z.process) e; front = ap (λ z. z.front) e })
        os apart

    all_sends : Apart Same (flat_map (outside_sends b) os)
    all_sends =
        apart_joined SameFront (outside_sends b) (λ o. send_apart _ _ o.front.does)
        (λ s r q h k.
        let e = sym (send_is b _ _ r.front.does s h).is ∙ (send_is b _ _ q.front.does s k).is in
        record { process = ap (λ z. z.process) e; front = ap (λ z. z.front) e })
        os apart

    all_receives : Apart Same (flat_map (outside_receives b) os)
    all_receives =
        apart_joined SameFront (outside_receives b) (λ o. receive_apart _ _ o.front.does)
        (λ s r q h k.
        let e = sym (receive_is b _ _ r.front.does s h).is ∙ (receive_is b _ _ q.front.does s k).is in
        record { process = ap (λ z. z.process) e; front = ap (λ z. z.front) e })
        os apart

  -- the kind of a step, by the list that it is in
  module _ (os : List Offer) (s : Step) where
    kind_internal : In s (flat_map internal_steps os) → s.kind ≡ 0
    kind_internal h = let q = in_joined internal_steps s os h in ap (λ z. z.kind) (internal_is _ _ q.0.front.does s q.2).1

    kind_meeting : In s (flat_map (meetings b os) os) → s.kind ≡ 1
    kind_meeting h = let q = in_joined (meetings b os) s os h in ap (λ z. z.kind) (meeting_comes b os s q.0 q.2).2.receiver.is

    kind_send : In s (flat_map (outside_sends b) os) → s.kind ≡ 2
    kind_send h = let q = in_joined (outside_sends b) s os h in ap (λ z. z.kind) (send_is b _ _ q.0.front.does s q.2).is

    kind_receive : In s (flat_map (outside_receives b) os) → s.kind ≡ 3
    kind_receive h = let q = in_joined (outside_receives b) s os h in ap (λ z. z.kind) (receive_is b _ _ q.0.front.does s q.2).is

  steps_apart : (os : List Offer) → Apart SameFront os → Apart Same (steps_of b os)
  unfolding steps_of
  steps_apart os a =
      apart_append Same (flat_map internal_steps os) _ (all_internal os a)
      (apart_append Same (flat_map (meetings b os) os) _ (all_meetings os a)
      (apart_append Same (flat_map (outside_sends b) os) _ (all_sends os a) (all_receives os a)
      (λ x y h k e. let i = kind_send os x h in let j = kind_receive os y k in let f = ap (λ z. z.kind) e in omega (arith, i, j, f)))
      (λ x y h k e. let i = kind_meeting os x h in let f = ap (λ z. z.kind) e in
      ⊎_elim (λ l. let j = kind_send os y l in omega (arith, i, j, f)) (λ l. let j = kind_receive os y l in omega (arith, i, j, f)) (in_either y (flat_map (outside_sends b) os) _ k)))
      (λ x y h k e. let i = kind_internal os x h in let f = ap (λ z. z.kind) e in
      ⊎_elim (λ l. let j = kind_meeting os y l in omega (arith, i, j, f))
      (λ l. ⊎_elim (λ n. let j = kind_send os y n in omega (arith, i, j, f)) (λ n. let j = kind_receive os y n in omega (arith, i, j, f)) (in_either y (flat_map (outside_sends b) os) _ l))
      (in_either y (flat_map (meetings b os) os) _ k))

pub listing_laws : ListingLaws
listing_laws = record {
  bounded = bounded;
  none_twice = λ m i j s p q. apart_places (steps m) (steps_apart m.behaviour (offers m) (offers_apart 0 m.processes)) i j s p q;
  is_in_list = λ m s h. in_place s (steps m) (listed_in s (steps m) h);
  in_list_is = λ m s i h. in_listed s (steps m) (place_in s (steps m) i h);
  closed_first = closed_first;
  processes_exist = processes_exist;
}
