-- Every step of a model, in the stated order.
use Rattle.std.specs.Prelude.{ℕ, ◌+◌, cond, not, ◌&&◌, List, [], ◌∷◌, ◌++◌, map, Some, None, Option, ◌==◌, slice_index_or}
use Rattle.std.specs.List.{flat_map}
use Rattle.values.specs.declared.kind.Kind.{Kind}
use Rattle.values.specs.Values.{Val, integer, kind_of}
use Rattle.commands.specs.Trees.{Behaviour}
use Rattle.heads.specs.Exchanges.{same_kinds}
use Rattle.processes.specs.Fronts.{Action, internal, sends, receives, Front, process_fronts}
use Rattle.records.specs.declared.step.Step.{Step}
use Rattle.records.specs.Steps as step
use Rattle.arrivals.specs.Climbing.{climb, meeting_channel}
use Rattle.steps.specs.Models.{Process, Model}

-- a front that a process offers: the process's number, its variables, the front
pub record Offer : Type 0 where
  pub process : ℕ
  pub variables : List Val
  pub front : Front

-- the fronts of processes that are numbered from a number on, by process and front
abbrev pub offers_of : ℕ → Process → List Offer
offers_of p one = map (λ x. record { process = p; variables = one.variables; front = x }) (process_fronts one.variables one.left)

abbrev pub offers_from : ℕ → List Process → List Offer
offers_from p [] = []
offers_from p (one ∷ others) = offers_of p one ++ offers_from (p + 1) others

abbrev pub offers : Model → List Offer
offers m = offers_from 0 m.processes

-- the kinds of the variables that a receive fills
abbrev pub target_kinds : List Val → List ℕ → List Kind
target_kinds vs ws = map (λ w. kind_of (slice_index_or vs w (integer None))) ws

-- the step of a channel, where there is one
abbrev pub over : Option ℕ → (ℕ → Step) → List Step
over None s = []
over (Some k) s = s k ∷ []

-- the channel as which two fronts arrive, where it is one
abbrev pub agreed : Option ℕ → Option ℕ → Option ℕ
agreed None other = None
agreed (Some k) None = None
agreed (Some k) (Some l) = cond (k == l) (Some k) None

-- an internal front is a step by itself
abbrev pub internal_by : ℕ → ℕ → Action → List Step
internal_by p n internal = step.internal p n ∷ []
internal_by p n (sends c m xs) = []
internal_by p n (receives c m ws) = []

abbrev pub internal_steps : Offer → List Step
internal_steps o = internal_by o.process o.front.number o.front.does

-- a send and a receive of two different processes meet at the lowest PAR above both, where channel, message, count and kinds agree
abbrev pub receive_meets : Behaviour → Offer → Offer → ℕ → ℕ → List Kind → Action → List Step
receive_meets b s r c m ks internal = []
receive_meets b s r c m ks (sends d n xs) = []
receive_meets b s r c m ks (receives d n ws) =
    cond (not (s.process == r.process) && (m == n && same_kinds ks (target_kinds r.variables ws)))
    (over (agreed (meeting_channel b s.process r.process c) (meeting_channel b r.process s.process d))
    (λ k. step.meeting s.process s.front.number r.process r.front.number k m))
    []

abbrev pub send_meets : Behaviour → Offer → Offer → Action → List Step
send_meets b s r internal = []
send_meets b s r (sends c m xs) = receive_meets b s r c m (map kind_of xs) r.front.does
send_meets b s r (receives c m ws) = []

abbrev pub meeting_steps : Behaviour → Offer → Offer → List Step
meeting_steps b s r = send_meets b s r s.front.does

-- a front whose channel passes the root is outside
abbrev pub send_by : Behaviour → ℕ → ℕ → Action → List Step
send_by b p n internal = []
send_by b p n (sends c m xs) = over (climb b p c) (λ k. step.outside_send p n k m)
send_by b p n (receives c m ws) = []

abbrev pub outside_sends : Behaviour → Offer → List Step
outside_sends b o = send_by b o.process o.front.number o.front.does

abbrev pub receive_by : Behaviour → ℕ → ℕ → Action → List Step
receive_by b p n internal = []
receive_by b p n (sends c m xs) = []
receive_by b p n (receives c m ws) = over (climb b p c) (λ k. step.outside_receive p n k m)

abbrev pub outside_receives : Behaviour → Offer → List Step
outside_receives b o = receive_by b o.process o.front.number o.front.does

-- the meetings of one sender
unfoldable pub meetings : Behaviour → List Offer → Offer → List Step
meetings b os s = flat_map (meeting_steps b s) os

-- internal steps by process and front; meetings by sender, its front, receiver, its front; outside sends, then outside receives, by process and front
unfoldable pub steps_of : Behaviour → List Offer → List Step
steps_of b os =
    flat_map internal_steps os
    ++ (flat_map (meetings b os) os
    ++ (flat_map (outside_sends b) os
    ++ flat_map (outside_receives b) os))

abbrev pub steps : Model → List Step
steps m = steps_of m.behaviour (offers m)
