-- A listed exchange is declared by the classes of the processes in it.
use Rattle.std.proofs.Common.{◌≡◌, ℕ, true, false, eqb, List, [], map, sym, refl, ap, ◌∙◌, subst}
use Rattle.std.proofs.lemmas.Bool.{eqb-false}
use Rattle.values.specs.declared.kind.Kind.{Kind}
use Rattle.values.specs.Values.{Val, kind_of}
use Rattle.admission.proofs.Exchanges.{same_kinds_from}
use Rattle.processes.specs.Fronts.{receives}
use Rattle.records.specs.declared.step.Step.{Step}
use Rattle.records.specs.Steps as step
use Rattle.arrivals.proofs.Rooted.{root_laws}
use Rattle.steps.specs.Declaring.{KeepsDeclarations}
use Rattle.steps.specs.Kept.{ModelKept}
use Rattle.steps.specs.Laws.{DeclaredLaws}
use Rattle.steps.specs.Models.{Model}
use Rattle.steps.specs.Steps.{Offer, offers, target_kinds}
use Rattle.steps.specs.Taking.{exchanged, fits}
use Rattle.steps.proofs.Arriving.{sender_meets, receiver_meets}
use Rattle.steps.proofs.Listed.{listed_comes, taken}
use Rattle.steps.proofs.Offered.{OfferOf, offer_of}
use Rattle.steps.proofs.Permitted.{sent_is, wanted_is, declares_sent, declares_received}
use Rattle.steps.proofs.Sources.{SendsOut, ReceivesIn, Meets, Comes, by_itself, in_meeting, going_out, coming_in}

other_kind : {A : Type 0} (i j : ℕ) → eqb i j ≡ false → i ≡ j → A
other_kind i j f e = absurd (eqb-false i j f e)

module _ (m : Model) (k : ModelKept m) where
  quiet_declared : (p n : ℕ) (ks : List Kind) → KeepsDeclarations m (step.internal p n) ks
  quiet_declared p n ks = record {
    sender = other_kind 0 1 refl;
    receiver = other_kind 0 1 refl;
    outside_send = other_kind 0 2 refl;
    outside_receive = other_kind 0 3 refl;
  }

  send_declared : (o : Offer) (s : Step) → OfferOf m o → (q : SendsOut m.behaviour o.process o.front.number o.front.does s) → KeepsDeclarations m (step.outside_send o.process o.front.number q.passed q.message) (map kind_of q.values)
  send_declared o s h q = record {
    sender = other_kind 2 1 refl;
    receiver = other_kind 2 1 refl;
    outside_send = λ e. (q.channel, declares_sent m o h k q.channel q.message q.values q.does, root_laws.passes m.behaviour o.process q.channel q.passed q.passes);
    outside_receive = other_kind 2 3 refl;
  }

  receive_declared : (o : Offer) (s : Step) (h : OfferOf m o) (q : ReceivesIn m.behaviour o.process o.front.number o.front.does s) (ks : List Kind) → target_kinds h.one.variables q.targets ≡ ks → KeepsDeclarations m (step.outside_receive o.process o.front.number q.passed q.message) ks
  receive_declared o s h q ks t = record {
    sender = other_kind 3 1 refl;
    receiver = other_kind 3 1 refl;
    outside_send = other_kind 3 2 refl;
    outside_receive = λ e. (q.channel, declares_received m o h k q.channel q.message q.targets ks q.does t, root_laws.passes m.behaviour o.process q.channel q.passed q.passes);
  }

  meeting_declared : (x r : Offer) (s : Step) → OfferOf m x → OfferOf m r → (q : Meets m.behaviour x r x.front.does s) → KeepsDeclarations m (step.meeting x.process x.front.number r.process r.front.number q.receiver.arrived q.message) (map kind_of q.values)
  meeting_declared x r s hx hr q =
      let t : target_kinds hr.one.variables q.receiver.targets ≡ map kind_of q.values = ap (λ vs. target_kinds vs q.receiver.targets) (sym hr.variables) ∙ sym q.receiver.kinds in
      let does : r.front.does ≡ receives q.receiver.channel q.message q.receiver.targets = q.receiver.does ∙ ap (λ n. receives q.receiver.channel n q.receiver.targets) (sym q.receiver.messages) in
      record {
        sender = λ e. (q.channel, declares_sent m x hx k q.channel q.message q.values q.does, sender_meets m k x r s hx hr q);
        receiver = λ e. (q.receiver.channel, declares_received m r hr k q.receiver.channel q.message q.receiver.targets _ does t, receiver_meets m k x r s hx hr q);
        outside_send = other_kind 1 2 refl;
        outside_receive = other_kind 1 3 refl;
      }

  -- with the kinds of its own values, or of its own variables
  some_kinds : (s z : Step) (ks : List Kind) → s ≡ z → KeepsDeclarations m z ks → (js : List Kind) × KeepsDeclarations m s js
  some_kinds s z ks e h = (ks, subst (λ y. KeepsDeclarations m y ks) (sym e) h)

  listed_declared : (s : Step) → Comes m.behaviour (offers m) s → (ks : List Kind) × KeepsDeclarations m s ks
  listed_declared s (by_itself o h q e) = some_kinds s _ [] e (quiet_declared _ _ [])
  listed_declared s (in_meeting x r h l q) = some_kinds s _ _ q.receiver.is (meeting_declared x r s (offer_of m x h) (offer_of m r l) q)
  listed_declared s (going_out o h q) = some_kinds s _ _ q.is (send_declared o s (offer_of m o h) q)
  listed_declared s (coming_in o h q) = some_kinds s _ _ q.is (receive_declared o s (offer_of m o h) q _ refl)

  -- with the kinds of the values that it exchanges
  taken_declared : (s : Step) (given : List Val) → Comes m.behaviour (offers m) s → fits m s given ≡ true → KeepsDeclarations m s (map kind_of (exchanged m s given))
  taken_declared s given (by_itself o h q e) f = subst (λ z. KeepsDeclarations m z (map kind_of (exchanged m z given))) (sym e) (quiet_declared _ _ [])
  taken_declared s given (in_meeting x r h l q) f =
      let i = offer_of m x h in
      let e = ap (λ ys. map kind_of ys) (sym (sent_is m x i q.channel q.message q.values q.does)) in
      subst (λ z. KeepsDeclarations m z (map kind_of (exchanged m z given))) (sym q.receiver.is) (subst (KeepsDeclarations m _) e (meeting_declared x r s i (offer_of m r l) q))
  taken_declared s given (going_out o h q) f =
      let i = offer_of m o h in
      let e = ap (λ ys. map kind_of ys) (sym (sent_is m o i q.channel q.message q.values q.does)) in
      subst (λ z. KeepsDeclarations m z (map kind_of (exchanged m z given))) (sym q.is) (subst (KeepsDeclarations m _) e (send_declared o s i q))
  taken_declared s given (coming_in o h q) f =
      let i = offer_of m o h in
      let e = sym (wanted_is m o i q.channel q.message q.targets q.does) ∙ same_kinds_from _ (map kind_of given) (subst (λ z. fits m z given ≡ true) q.is f) in
      subst (λ z. KeepsDeclarations m z (map kind_of (exchanged m z given))) (sym q.is) (receive_declared o s i q (map kind_of given) e)

pub declared_laws : DeclaredLaws
declared_laws = record {
  listed_declared = λ m s k h. listed_declared m k s (listed_comes m s h);
  taken_declared = λ m s given k h. let t = taken m s given h in taken_declared m k s given (listed_comes m s t.0) t.1;
}
