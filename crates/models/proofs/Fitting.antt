-- The fronts of a step that is not refused take what the step exchanges.
use Rattle.std.proofs.Common.{◌≡◌, true, false, List, [], ◌∷◌, map, Some, None, sym, refl, ap, ◌∙◌, subst, arith}
use Rattle.values.specs.Rows.{row_of, value_of_row}
use Rattle.values.specs.Values.{Val, integer, boolean, kind_of}
use Rattle.admission.proofs.Exchanges.{same_kinds_from}
use Rattle.processes.specs.Evaluation.{values_of}
use Rattle.processes.specs.Fronts.{Action, internal, sends, receives, Front}
use Rattle.records.specs.declared.step.Step.{Step}
use Rattle.records.specs.Steps as step
use Rattle.steps.specs.Models.{Model}
use Rattle.steps.specs.Steps.{Offer, offers, target_kinds}
use Rattle.steps.specs.Taking.{process_numbered, offered_front, sent, with_moved, exchanged, fits, refusal}
use Rattle.steps.proofs.Keeping.{still_offered}
use Rattle.steps.proofs.Listed.{listed_comes, taken}
use Rattle.steps.proofs.Offered.{OfferOf, offer_of, process_is}
use Rattle.steps.proofs.Permitted.{front_is, sent_is, wanted_is}
use Rattle.steps.proofs.Sources.{Quiet, Comes, by_itself, in_meeting, going_out, coming_in}
use Rattle.models.specs.Takes.{Takes, FrontTakes}

quiet_takes : (vs : List Val) (a : Action) (got : List Val) → Quiet a → Takes vs a got
quiet_takes vs internal got q = tt
quiet_takes vs (sends c m xs) got q = absurd q
quiet_takes vs (receives c m ws) got q = absurd q

-- an offer's front takes what its action takes
offer_takes : (m : Model) (o : Offer) (h : OfferOf m o) (got : List Val) (a : Action) → o.front.does ≡ a → Takes h.one.variables a got → FrontTakes m o.process o.front.number got
offer_takes m o h got a e t = record {
  takes = λ y f.
      let same : o.front ≡ y = some_is o.front y (sym (front_is m o h) ∙ f) in
      let here : Takes (process_numbered m o.process).variables o.front.does got =
      subst (λ one. Takes one.variables o.front.does got) (sym (process_is m o.process h.one h.numbered)) (subst (λ b. Takes h.one.variables b got) (sym e) t)
      in
      subst (λ z. Takes (process_numbered m o.process).variables z.does got) same here;
}
  where
    some_is : (x y : Front) → Some x ≡ Some y → x ≡ y
    some_is x y i = cc

-- the step's process
first_by : (m : Model) (s : Step) (given : List Val) → Comes m.behaviour (offers m) s → fits m s given ≡ true → FrontTakes m s.process s.front (exchanged m s given)
first_by m s given (by_itself o i q e) f =
    let h = offer_of m o i in
    subst (λ z. FrontTakes m z.process z.front (exchanged m z given)) (sym e) (offer_takes m o h [] o.front.does refl (quiet_takes h.one.variables o.front.does [] q))
first_by m s given (in_meeting x r i j q) f =
    let h = offer_of m x i in
    subst (λ z. FrontTakes m z.process z.front (exchanged m z given)) (sym q.receiver.is)
    (offer_takes m x h _ (sends q.channel q.message q.values) q.does tt)
first_by m s given (going_out o i q) f =
    let h = offer_of m o i in
    subst (λ z. FrontTakes m z.process z.front (exchanged m z given)) (sym q.is) (offer_takes m o h _ (sends q.channel q.message q.values) q.does tt)
first_by m s given (coming_in o i q) f =
    let h = offer_of m o i in
    let fit : fits m (step.outside_receive o.process o.front.number q.passed q.message) given ≡ true = subst (λ z. fits m z given ≡ true) q.is f in
    let e = sym (wanted_is m o h q.channel q.message q.targets q.does) ∙ same_kinds_from _ (map kind_of given) fit in
    subst (λ z. FrontTakes m z.process z.front (exchanged m z given)) (sym q.is) (offer_takes m o h given (receives q.channel q.message q.targets) q.does e)

-- and its partner, in the model after the first
abbrev next : Model → Step → List Val → Model
next m s given = with_moved m s.process s.front (exchanged m s given)

partner_by : (m : Model) (s : Step) (given : List Val) → Comes m.behaviour (offers m) s → s.kind ≡ 1 → FrontTakes (next m s given) s.partner s.partner_front (exchanged m s given)
partner_by m s given (by_itself o i q e) k = absurd (omega (arith, k, ap (λ z. z.kind) e))
partner_by m s given (going_out o i q) k = absurd (omega (arith, k, ap (λ z. z.kind) q.is))
partner_by m s given (coming_in o i q) k = absurd (omega (arith, k, ap (λ z. z.kind) q.is))
partner_by m s given (in_meeting x r i j q) k =
    let hx = offer_of m x i in
    let hr = offer_of m r j in
    let xs = sent (offered_front (process_numbered m x.process) x.front.number) in
    let there = still_offered m x.process x.front.number xs r q.receiver.different hr in
    let e : target_kinds there.one.variables q.receiver.targets ≡ map kind_of xs =
    ap (λ vs. target_kinds vs q.receiver.targets) (sym there.variables) ∙ sym q.receiver.kinds ∙ ap (map kind_of) (sym (sent_is m x hx q.channel q.message q.values q.does))
    in
    subst (λ z. FrontTakes (next m z given) z.partner z.partner_front (exchanged m z given)) (sym q.receiver.is)
    (offer_takes (with_moved m x.process x.front.number xs) r there xs (receives q.receiver.channel q.receiver.message q.receiver.targets) q.receiver.does e)

pub first_takes : (m : Model) (s : Step) (given : List Val) → refusal m s given ≡ None → FrontTakes m s.process s.front (exchanged m s given)
first_takes m s given h = let t = taken m s given h in first_by m s given (listed_comes m s t.0) t.1

pub partner_takes : (m : Model) (s : Step) (given : List Val) → refusal m s given ≡ None → s.kind ≡ 1 → FrontTakes (next m s given) s.partner s.partner_front (exchanged m s given)
partner_takes m s given h k = let t = taken m s given h in partner_by m s given (listed_comes m s t.0) k

-- a value is read back from its row
back : (v : Val) → value_of_row (row_of v) ≡ v
back (integer None) = refl
back (integer (Some z)) = refl
back (boolean None) = refl
back (boolean (Some true)) = refl
back (boolean (Some false)) = refl

pub all_back : (vs : List Val) → values_of (map row_of vs) ≡ vs
all_back [] = refl
all_back (v ∷ vs) = let e = back v in let r = all_back vs in (λ i. e i ∷ r i)
