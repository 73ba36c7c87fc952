-- A run by its rules, turn by turn.
use Rattle.std.specs.Prelude.{◌≡◌, ℕ, suc, ◌-◌, ◌<◌, List, [], ◌∷◌, length, Some, None, Ok}
use Rattle.std.specs.List.{slice_get}
use Rattle.records.specs.declared.step.Step.{Step}
use Rattle.choosers.specs.Meanings.{Question, Meaning, after}
use Rattle.steps.specs.Taking.{after_step}
use Rattle.answers.specs.declared.stop.Stop.{Stop}
use Rattle.answers.specs.declared.stop.Stop.TheVariants.{BudgetSpent, NoClosedStep, Declined, JournalFull}
use Rattle.engine.specs.Turns.{entry, closed_steps, Turn, Working, Run, run_from}

-- asked about steps, the chooser answers a number
abbrev pub AnswersNumber : Meaning → Question → ℕ → Type 0
AnswersNumber c q n = c [] q ≡ Ok n

-- it picks the step with the number that it answers
abbrev pub Picks : Meaning → Question → Step → Type 0
Picks c q s = (n : ℕ) × AnswersNumber c q n × (slice_get q n ≡ Some s)

-- it declines: it answers no number, or one that no step has
abbrev pub Declines : Meaning → Question → Type 0
Declines c q = (n : ℕ) → AnswersNumber c q n → slice_get q n ≡ None

-- the turn in which a step is taken, and what it leaves
abbrev pub turn_with : Working → Step → Turn
turn_with w s = record { offered = closed_steps w.model; entered = entry w.model s [] }

abbrev pub once_taken : Working → Step → Working
once_taken w s = record { model = after_step w.model s []; chooser = after w.chooser (closed_steps w.model); free = w.free - 1 }

-- what a turn leaves in which the chooser declines: it was asked
abbrev pub once_asked : Working → Working
once_asked w = record { model = w.model; chooser = after w.chooser (closed_steps w.model); free = w.free }

-- a run with a budget, from what it works on: the turns that it takes, why it stops, and what it leaves
pub data RunsBy : ℕ → Working → List Turn → Stop → Working → Type 0 where
  -- the budget is spent
  spent : {w : Working} → RunsBy 0 w [] BudgetSpent w
  -- else no closed step is listed
  none_closed : {n : ℕ} {w : Working} → closed_steps w.model ≡ [] → RunsBy (suc n) w [] NoClosedStep w
  -- else the journal is full
  full : {n : ℕ} {w : Working} → 0 < length (closed_steps w.model) → w.free ≡ 0 → RunsBy (suc n) w [] JournalFull w
  -- else the chooser declines
  declined :
      {n : ℕ} {w : Working} →
      0 < length (closed_steps w.model) → 0 < w.free → Declines w.chooser (closed_steps w.model) →
      RunsBy (suc n) w [] Declined (once_asked w)
  -- else it picks a step, which is taken, and the run goes on with one turn less
  taken :
      {n : ℕ} {w : Working} {turns : List Turn} {why : Stop} {left : Working} (s : Step) →
      0 < w.free → Picks w.chooser (closed_steps w.model) s →
      RunsBy n (once_taken w s) turns why left → RunsBy (suc n) w (turn_with w s ∷ turns) why left

-- so it is with a run as a whole
abbrev pub RunsAs : ℕ → Working → Run → Type 0
RunsAs budget w r = RunsBy budget w r.turns r.stop r.left

-- every run keeps these rules, and from the same budget and start they allow no other
pub record RunsAreThese : Type 0 where
  pub every : (budget : ℕ) (w : Working) → RunsAs budget w (run_from budget w)
  pub only : (budget : ℕ) (w : Working) (a b : Run) → RunsAs budget w a → RunsAs budget w b → a ≡ b
