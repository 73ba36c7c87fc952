-- Offers by what others see of them, and the steps that they make.
use Rattle.std.specs.Prelude.{◌≡◌, ℕ, zero, suc, ◌<◌, ◌≤◌, Bool, true, false, cond, not, ◌&&◌, List, [], ◌∷◌, ◌++◌, map, length, Some, None, Option, ◌==◌}
use denote.Ref.{Bor}
use Rattle.std.specs.List.{flat_map}
use Rattle.values.specs.declared.kind.Kind.{Kind}
use Rattle.values.specs.Kinds.{same_kind}
use Rattle.values.specs.Values.{Val, kind_of}
use Rattle.commands.specs.Trees.{Behaviour}
use Rattle.processes.specs.Fronts.{Action, internal, sends, receives}
use Rattle.records.specs.declared.step.Step.{Step}
use Rattle.records.specs.Lists.{optional}
use Rattle.records.specs.Steps as step
use Rattle.arrivals.specs.Climbing.{arrival_in, meeting_in, climb, meeting_channel}
use Rattle.steps.specs.Steps as steps
use Rattle.steps.specs.Steps.{target_kinds, agreed}
use Rattle.listing.specs.declared.offer.Exchange.{Exchange}
use Rattle.listing.specs.declared.offer.Offer.{Offer}
use Rattle.listing.specs.declared.offer.Role.{Role}
use Rattle.listing.specs.declared.offer.Role.TheVariants.{Internal, Send, Receive}

-- some kinds in so many places, none where unused
abbrev pub kind_places : ℕ → List Kind → List (Option Kind)
kind_places zero ks = []
kind_places (suc n) [] = None ∷ kind_places n []
kind_places (suc n) (k ∷ ks) = Some k ∷ kind_places n ks

abbrev pub exchange : ℕ → ℕ → List Kind → Exchange
exchange c m ks = record { channel = c; message = m; kinds = kind_places 4 ks }

-- what others see of an action of front n of process p
abbrev pub seen : ℕ → ℕ → List Val → Action → Offer
seen p n vs internal = record { process = p; front = n; role = Internal }
seen p n vs (sends c m xs) = record { process = p; front = n; role = Send (exchange c m (map kind_of xs)) }
seen p n vs (receives c m ws) = record { process = p; front = n; role = Receive (exchange c m (target_kinds vs ws)) }

abbrev pub offer_of : steps.Offer → Offer
offer_of o = seen o.process o.front.number o.variables o.front.does

abbrev pub same_place : Option Kind → Option Kind → Bool
same_place None None = true
same_place None (Some j) = false
same_place (Some k) None = false
same_place (Some k) (Some j) = same_kind k j

-- the same kinds in the same places
abbrev pub alike : List (Option Kind) → List (Option Kind) → Bool
alike [] [] = true
alike [] (y ∷ ys) = false
alike (x ∷ xs) [] = false
alike (x ∷ xs) (y ∷ ys) = same_place x y && alike xs ys

-- the same message, the same kinds
abbrev pub agree : Exchange → Exchange → Bool
agree s r = s.message == r.message && alike s.kinds r.kinds

abbrev pub internal_role : Offer → Role → Option Step
internal_role o Internal = Some (step.internal o.process o.front)
internal_role o (Send x) = None
internal_role o (Receive x) = None

abbrev pub internal_step : Offer → Option Step
internal_step o = internal_role o o.role

-- the channel as which a channel of process p and one of process q both arrive, by the table of arrivals
abbrev pub common_channel : List (Option ℕ) → ℕ → ℕ → ℕ → ℕ → Option ℕ
common_channel t p c q d = agreed (meeting_in t p q c) (meeting_in t q p d)

abbrev pub met : Offer → Offer → ℕ → Option ℕ → Option Step
met s r m None = None
met s r m (Some k) = Some (step.meeting s.process s.front r.process r.front k m)

-- different processes, which agree in what they exchange
abbrev pub meeting_roles : List (Option ℕ) → Offer → Offer → Role → Role → Option Step
meeting_roles t s r Internal other = None
meeting_roles t s r (Receive x) other = None
meeting_roles t s r (Send x) Internal = None
meeting_roles t s r (Send x) (Send y) = None
meeting_roles t s r (Send x) (Receive y) = cond (not (s.process == r.process) && agree x y) (met s r x.message (common_channel t s.process x.channel r.process y.channel)) None

abbrev pub meeting_step : List (Option ℕ) → Offer → Offer → Option Step
meeting_step t s r = meeting_roles t s r s.role r.role

abbrev pub passing : Option ℕ → (ℕ → Step) → Option Step
passing None s = None
passing (Some k) s = Some (s k)

abbrev pub send_role : List (Option ℕ) → Offer → Role → Option Step
send_role t o Internal = None
send_role t o (Send x) = passing (arrival_in t o.process 8 x.channel) (λ k. step.outside_send o.process o.front k x.message)
send_role t o (Receive x) = None

abbrev pub send_step : List (Option ℕ) → Offer → Option Step
send_step t o = send_role t o o.role

abbrev pub receive_role : List (Option ℕ) → Offer → Role → Option Step
receive_role t o Internal = None
receive_role t o (Send x) = None
receive_role t o (Receive x) = passing (arrival_in t o.process 8 x.channel) (λ k. step.outside_receive o.process o.front k x.message)

abbrev pub receive_step : List (Option ℕ) → Offer → Option Step
receive_step t o = receive_role t o o.role

-- the steps that a function makes of offers, in their order
abbrev pub made : (Offer → Option Step) → List Offer → List Step
made f os = flat_map (λ o. optional (f o)) os

-- a call with an offer gives what the function says
abbrev pub Computes : (Bor Offer → Option Step → Type 0) → (Offer → Option Step) → Type 0
Computes post f = (o : Bor Offer) (s : Option Step) → post o s → s ≡ f o.now

-- the same as lists
abbrev pub internal_steps : Offer → List Step
internal_steps o = optional (internal_step o)

abbrev pub meeting_steps : List (Option ℕ) → Offer → Offer → List Step
meeting_steps t s r = optional (meeting_step t s r)

abbrev pub outside_sends : List (Option ℕ) → Offer → List Step
outside_sends t o = optional (send_step t o)

abbrev pub outside_receives : List (Option ℕ) → Offer → List Step
outside_receives t o = optional (receive_step t o)

-- the meetings of one sender
unfoldable pub meetings : List (Option ℕ) → List Offer → Offer → List Step
meetings t os s = flat_map (meeting_steps t s) os

unfoldable pub listed : List (Option ℕ) → List Offer → List Step
listed t os =
    flat_map internal_steps os
    ++ (flat_map (meetings t os) os
    ++ (flat_map (outside_sends t) os
    ++ flat_map (outside_receives t) os))

-- an offer that the code can hold: a process number below 8, a channel below 32, at most four values
abbrev pub HoldableAction : Action → Type 0
HoldableAction internal = Unit {0}
HoldableAction (sends c m xs) = (c < 32) × (length xs ≤ 4)
HoldableAction (receives c m ws) = (c < 32) × (length ws ≤ 4)

pub record Holdable (o : steps.Offer) : Type 0 where
  pub numbered : o.process < 8
  pub action : HoldableAction o.front.does

-- the table of arrivals is this behaviour's
pub record ArrivesBy (t : List (Option ℕ)) (b : Behaviour) : Type 0 where
  pub meets : (p q c : ℕ) → p < 8 → q < 8 → c < 32 → meeting_in t p q c ≡ meeting_channel b p q c
  pub passes : (p c : ℕ) → p < 8 → c < 32 → arrival_in t p 8 c ≡ climb b p c
