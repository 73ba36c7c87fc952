-- A step that is not refused keeps the model.
use Rattle.std.proofs.Common.{◌≡◌, ℕ, zero, suc, true, List, [], ◌∷◌, map, set, None, sym, refl, ap, ◌∙◌, subst}
use Rattle.std.specs.List.{slice_get}
use Rattle.values.specs.Values.{Val, kind_of}
use Rattle.admission.proofs.Exchanges.{same_kinds_from}
use Rattle.records.specs.declared.step.Step.{Step}
use Rattle.records.specs.Steps as step
use Rattle.steps.specs.Kept.{ModelKept}
use Rattle.steps.specs.Laws.{TakingLaws}
use Rattle.steps.specs.Models.{Model}
use Rattle.steps.specs.Steps.{Offer, offers, target_kinds}
use Rattle.steps.specs.Taking.{process_numbered, offered_front, moved, with_moved, sent, after_step, fits, refusal}
use Rattle.steps.proofs.Listed.{listed_comes, taken}
use Rattle.steps.proofs.Offered.{OfferOf, offer_of}
use Rattle.steps.proofs.Permitted.{sent_is, wanted_is, brings_quiet, brings_sent, brings_received, moved_kept}
use Rattle.steps.proofs.Sources.{Quiet, SendsOut, ReceivesIn, Meets, Comes, by_itself, in_meeting, going_out, coming_in}
use Rattle.steps.proofs.Staying.{others_stay, its_class_stays, classes_stay, behaviour_stays, start_kept}

nth_set_other : {A : Type 0} (xs : List A) (i j : ℕ) (x : A) → (i ≡ j → ⊥) → slice_get (set xs i x) j ≡ slice_get xs j
nth_set_other [] i j x h = refl
nth_set_other (y ∷ xs) zero zero x h = absurd (h refl)
nth_set_other (y ∷ xs) zero (suc j) x h = refl
nth_set_other (y ∷ xs) (suc i) zero x h = refl
nth_set_other (y ∷ xs) (suc i) (suc j) x h = nth_set_other xs i j x (λ e. h (ap suc e))

-- an offer stays while another process goes on
pub still_offered : (m : Model) (p n : ℕ) (got : List Val) (o : Offer) → (p ≡ o.process → ⊥) → OfferOf m o → OfferOf (with_moved m p n got) o
still_offered m p n got o d h =
    record { one = h.one; numbered = nth_set_other m.processes p o.process (moved (process_numbered m p) n got) d ∙ h.numbered; variables = h.variables; front = h.front }

module _ (m : Model) (k : ModelKept m) where
  internal_kept : (o : Offer) (given : List Val) → OfferOf m o → Quiet o.front.does → ModelKept (after_step m (step.internal o.process o.front.number) given)
  internal_kept o given h q = moved_kept m o h k [] (brings_quiet m o h k [] q)

  send_kept : (o : Offer) (given : List Val) (c n : ℕ) → OfferOf m o → (s : Step) → SendsOut m.behaviour o.process o.front.number o.front.does s → ModelKept (after_step m (step.outside_send o.process o.front.number c n) given)
  send_kept o given c n h s q =
      let xs = sent (offered_front (process_numbered m o.process) o.front.number) in
      moved_kept m o h k xs (brings_sent m o h k q.channel q.message q.values xs q.does)

  receive_kept : (o : Offer) (given : List Val) (c n : ℕ) → OfferOf m o → (s : Step) → ReceivesIn m.behaviour o.process o.front.number o.front.does s → fits m (step.outside_receive o.process o.front.number c n) given ≡ true → ModelKept (after_step m (step.outside_receive o.process o.front.number c n) given)
  receive_kept o given c n h s q f =
      let e = sym (wanted_is m o h q.channel q.message q.targets q.does) ∙ same_kinds_from _ (map kind_of given) f in
      moved_kept m o h k given (brings_received m o h k q.channel q.message q.targets given q.does e)

  meeting_kept : (x r : Offer) (given : List Val) (c n : ℕ) → OfferOf m x → OfferOf m r → (s : Step) → Meets m.behaviour x r x.front.does s → ModelKept (after_step m (step.meeting x.process x.front.number r.process r.front.number c n) given)
  meeting_kept x r given c n hx hr s q =
      let xs = sent (offered_front (process_numbered m x.process) x.front.number) in
      let next = with_moved m x.process x.front.number xs in
      let next_kept : ModelKept next = moved_kept m x hx k xs (brings_sent m x hx k q.channel q.message q.values xs q.does) in
      let there : OfferOf next r = still_offered m x.process x.front.number xs r q.receiver.different hr in
      let e : target_kinds there.one.variables q.receiver.targets ≡ map kind_of xs =
      ap (λ vs. target_kinds vs q.receiver.targets) (sym there.variables) ∙ sym q.receiver.kinds ∙ ap (λ ys. map kind_of ys) (sym (sent_is m x hx q.channel q.message q.values q.does)) in
      moved_kept next r there next_kept xs (brings_received next r there next_kept q.receiver.channel q.receiver.message q.receiver.targets xs q.receiver.does e)

  come_kept : (s : Step) (given : List Val) → Comes m.behaviour (offers m) s → fits m s given ≡ true → ModelKept (after_step m s given)
  come_kept s given (by_itself o h q e) f = subst (λ z. ModelKept (after_step m z given)) (sym e) (internal_kept o given (offer_of m o h) q)
  come_kept s given (in_meeting x r h l q) f =
      subst (λ z. ModelKept (after_step m z given)) (sym q.receiver.is) (meeting_kept x r given q.receiver.arrived q.message (offer_of m x h) (offer_of m r l) s q)
  come_kept s given (going_out o h q) f =
      subst (λ z. ModelKept (after_step m z given)) (sym q.is) (send_kept o given q.passed q.message (offer_of m o h) s q)
  come_kept s given (coming_in o h q) f =
      subst (λ z. ModelKept (after_step m z given)) (sym q.is) (receive_kept o given q.passed q.message (offer_of m o h) s q (subst (λ z. fits m z given ≡ true) q.is f))

step_kept : (m : Model) (s : Step) (given : List Val) → ModelKept m → refusal m s given ≡ None → ModelKept (after_step m s given)
step_kept m s given k h = let t = taken m s given h in come_kept m k s given (listed_comes m s t.0) t.1

pub taking_laws : TakingLaws
taking_laws = record {
  others_stay = others_stay;
  its_class_stays = its_class_stays;
  classes_stay = classes_stay;
  behaviour_stays = behaviour_stays;
  start_kept = start_kept;
  step_kept = step_kept;
}
