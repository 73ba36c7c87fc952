-- The channels of a meeting arrive along their ways up the behaviour.
use Rattle.std.proofs.Common.{◌<◌}
use Rattle.admission.specs.Conditions.{processes}
use Rattle.records.specs.declared.step.Step.{Step}
use Rattle.arrivals.proofs.Meeting.{meeting_laws}
use Rattle.arrivals.specs.Ways.{MeetsAs}
use Rattle.steps.specs.Kept.{ModelKept}
use Rattle.steps.specs.Models.{Model}
use Rattle.steps.specs.Steps.{Offer}
use Rattle.steps.proofs.Numbered.{offer_exists}
use Rattle.steps.proofs.Offered.{OfferOf}
use Rattle.steps.proofs.Sources.{Meets}
use Rattle.steps.proofs.Staying.{proc_exists}

module _ (m : Model) (k : ModelKept m) where
  offer_proc : (o : Offer) → OfferOf m o → o.process < processes m.behaviour
  offer_proc o h = proc_exists m o.process k (offer_exists m o h)

  module _ (x r : Offer) (s : Step) (h : OfferOf m x) (l : OfferOf m r) (q : Meets m.behaviour x r x.front.does s) where
    pub sender_meets : MeetsAs m.behaviour x.process r.process q.channel q.receiver.arrived
    sender_meets = meeting_laws.arrives m.behaviour x.process r.process q.channel q.receiver.arrived (offer_proc x h) (offer_proc r l) q.receiver.sender_arrives

    pub receiver_meets : MeetsAs m.behaviour r.process x.process q.receiver.channel q.receiver.arrived
    receiver_meets = meeting_laws.arrives m.behaviour r.process x.process q.receiver.channel q.receiver.arrived (offer_proc r l) (offer_proc x h) q.receiver.receiver_arrives
