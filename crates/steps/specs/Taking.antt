-- The model after a step, and what the step exchanged.
use Rattle.std.specs.Prelude.{ℕ, Bool, false, cond, ◌&&◌, ◌||◌, List, [], ◌∷◌, map, Some, None, Option, ◌==◌, slice_index_or, slice_set}
use Rattle.values.specs.declared.kind.Kind.{Kind}
use Rattle.values.specs.Values.{Val, kind_of}
use Rattle.heads.specs.Exchanges.{same_kinds}
use Rattle.processes.specs.Classes.{after}
use Rattle.processes.specs.Fronts.{Action, internal, sends, receives, Front, process_fronts}
use Rattle.processes.specs.Found.{front_numbered}
use Rattle.records.specs.declared.step.Step.{Step}
use Rattle.answers.specs.declared.refusal.TakeRefusal.{TakeRefusal}
use Rattle.answers.specs.declared.refusal.TakeRefusal.TheVariants.{NotListed, Values}
use Rattle.steps.specs.Models.{Process, Model}
use Rattle.steps.specs.Steps.{steps, target_kinds}

-- what a process number stands for that no process has: one that has ended
abbrev pub ended : Process
ended = record { class = 0; left = []; variables = [] }

abbrev pub process_numbered : Model → ℕ → Process
process_numbered m p = slice_index_or m.processes p ended

-- a front of a process, by its number
abbrev pub offered_front : Process → ℕ → Option Front
offered_front one n = front_numbered n (process_fronts one.variables one.left)

-- a process after one of its fronts, with the values that it receives
abbrev pub gone_on : Process → Option Front → List Val → Process
gone_on one None got = one
gone_on one (Some x) got = record { class = one.class; left = x.leaves; variables = after x.variables x.does got }

abbrev pub moved : Process → ℕ → List Val → Process
moved one n got = gone_on one (offered_front one n) got

-- the same in the model; all other processes stay
abbrev pub with_moved : Model → ℕ → ℕ → List Val → Model
with_moved m p n got =
    record { classes = m.classes; behaviour = m.behaviour; processes = slice_set m.processes p (moved (process_numbered m p) n got) }

-- the values that a front sends
abbrev pub sent : Option Front → List Val
sent None = []
sent (Some x) = by_action x.does
  where
    by_action : Action → List Val
    by_action internal = []
    by_action (sends c m xs) = xs
    by_action (receives c m ws) = []

-- the values that a step exchanges: those that its process sends, or in an outside receive those that are given
abbrev pub exchanged : Model → Step → List Val → List Val
exchanged m s given =
    cond (s.kind == 3) given
    (cond (s.kind == 0) [] (sent (offered_front (process_numbered m s.process) s.front)))

-- the step's process goes on, and in a meeting its partner
abbrev pub after_step : Model → Step → List Val → Model
after_step m s given =
    let xs = exchanged m s given in
    let next = with_moved m s.process s.front xs in
    cond (s.kind == 1) (with_moved next s.partner s.partner_front xs) next

-- the kinds of the values that a front asks for
abbrev pub wanted : List Val → Option Front → List Kind
wanted vs None = []
wanted vs (Some x) = by_action x.does
  where
    by_action : Action → List Kind
    by_action internal = []
    by_action (sends c m xs) = []
    by_action (receives c m ws) = target_kinds vs ws

-- an outside receive brings values for its variables, any other step none
abbrev pub fits : Model → Step → List Val → Bool
fits m s given =
    let one = process_numbered m s.process in
    same_kinds (cond (s.kind == 3) (wanted one.variables (offered_front one s.front)) []) (map kind_of given)

abbrev pub same_step : Step → Step → Bool
same_step a b =
    (a.kind == b.kind) && (a.process == b.process && (a.front == b.front && (a.partner == b.partner
    && (a.partner_front == b.partner_front && (a.channel == b.channel && a.message == b.message)))))

abbrev pub is_in : Step → List Step → Bool
is_in s [] = false
is_in s (x ∷ xs) = same_step s x || is_in s xs

-- why a step is not taken: it is not listed now, or the values do not fit
abbrev pub refusal : Model → Step → List Val → Option TakeRefusal
refusal m s given = cond (is_in s (steps m)) (cond (fits m s given) None (Some Values)) (Some NotListed)
