-- Worked samples through the calls: a file of two processes that meet, on a new engine.
use Rattle.std.specs.Prelude.{◌≡◌, ℕ, ◌<◌, List, [], ◌∷◌, pos, Some, Ok, Err, Result, slice_set, take as first}
use Rattle.values.specs.Rows.{row_of}
use Rattle.values.specs.Values.{integer}
use Rattle.answers.specs.declared.fault.FaultKind.TheVariants.{Command}
use Rattle.answers.specs.declared.fault.Layer.TheVariants.{Behaviour}
use Rattle.heads.specs.Checked.{fault}
use Rattle.admission.specs.Samples.{exchange_file}
use Rattle.records.specs.declared.record.Record.{Record}
use Rattle.records.specs.declared.step.Step.{Step}
use Rattle.records.specs.Records.{unknown_row}
use Rattle.records.specs.Steps.{meeting, outside_send, outside_receive}
use Rattle.choosers.specs.Meanings.{Meaning}
use Rattle.models.specs.Views.{start_of}
use Rattle.steps.specs.Models.{Model}
use Rattle.steps.specs.Taking.{process_numbered}
use Rattle.answers.specs.declared.refusal.NoRoom.{NoRoom}
use Rattle.answers.specs.declared.stop.Stop.{Stop}
use Rattle.answers.specs.declared.stop.Stop.TheVariants.{BudgetSpent, NoClosedStep, Declined, JournalFull}
use Rattle.answers.specs.declared.refusal.TakeRefusal.TheVariants.{NotListed}
use Rattle.engine.specs.Turns.{Run, run_answer}
use Rattle.engine.specs.Running.{AnswersNumber, Declines}
use Rattle.engine.specs.Calls.{Runner, load, take, run, World, load_answer, list_answer, listed, refused, take_answer, asked, run_of, next, entered}
use Rattle.engine.specs.History.{new, afterwards}

-- with channel 1 not hidden; and with the last byte removed
abbrev pub open_file : List ℕ
open_file = slice_set exchange_file 55 0

abbrev pub cut_file : List ℕ
cut_file = first 65 exchange_file

-- the step of exchange_file, and the record of it: the value 7, and three places that it does not use
abbrev pub exchange_step : Step
exchange_step = meeting 0 0 1 0 1 2

abbrev pub exchange_record : Record
exchange_record = record { step = exchange_step; count = 1; values = row_of (integer (Some (pos 7))) ∷ unknown_row ∷ unknown_row ∷ unknown_row ∷ [] }

-- a new engine once a file is loaded; and once the step of exchange_file is taken too, with so much room in the journal
abbrev pub with_file : List ℕ → Meaning → World
with_file f c = afterwards (load f ∷ []) (new c)

abbrev pub with_step : ℕ → Meaning → World
with_step free c = afterwards (load exchange_file ∷ take exchange_step [] free ∷ []) (new c)

-- what a run answers from there with a table of enough room, by its runner, budget and the journal's room
abbrev pub run_answered : Meaning → Runner → ℕ → ℕ → Result (ℕ × Stop) NoRoom
run_answered c runner budget free = run_answer 1088 (run_of runner budget 1088 free (with_file exchange_file c))

-- asked about the one step, the runner's chooser picks it, by its number 0; or declines
abbrev pub PicksStep : Meaning → Runner → Type 0
PicksStep c runner = AnswersNumber (asked runner (with_file exchange_file c)) (exchange_step ∷ []) 0

abbrev pub DeclinesStep : Meaning → Runner → Type 0
DeclinesStep c runner = Declines (asked runner (with_file exchange_file c)) (exchange_step ∷ [])

-- loading, listing and taking
pub record TakeSample : Type 0 where
  pub loads : load_answer (start_of exchange_file) ≡ Ok tt
  pub lists : list_answer 1088 ≡ Ok tt
  pub one_step :
      (c : Meaning) (held : List Step) →
      listed 1088 (with_file exchange_file c).model held ≡ exchange_step ∷ []
  pub takes :
      (c : Meaning) (free : ℕ) → 0 < free →
      take_answer (refused (with_file exchange_file c).model exchange_step [] free) ≡ Ok tt
  pub received :
      (c : Meaning) (free : ℕ) → 0 < free →
      (process_numbered (with_step free c).model 1).variables ≡ integer (Some (pos 7)) ∷ []
  pub enters :
      (c : Meaning) (free : ℕ) → 0 < free →
      entered (take exchange_step [] free) (with_file exchange_file c) ≡ exchange_record ∷ []
  pub no_step :
      (c : Meaning) (free : ℕ) (held : List Step) → 0 < free →
      listed 1088 (with_step free c).model held ≡ []

-- taking the step again, whatever room the journal has then
pub record AgainSample : Type 0 where
  pub refuses :
      (c : Meaning) (free more : ℕ) → 0 < free →
      take_answer (refused (with_step free c).model exchange_step [] more) ≡ Err NotListed
  pub leaves :
      (c : Meaning) (free more : ℕ) → 0 < free →
      next (take exchange_step [] more) (with_step free c) ≡ with_step free c
  pub enters :
      (c : Meaning) (free more : ℕ) → 0 < free →
      entered (take exchange_step [] more) (with_step free c) ≡ []

-- the file with its channel not hidden
pub record OpenSample : Type 0 where
  pub loads : load_answer (start_of open_file) ≡ Ok tt
  pub three_steps :
      (c : Meaning) (held : List Step) →
      listed 1088 (with_file open_file c).model held ≡ exchange_step ∷ outside_send 0 0 1 2 ∷ outside_receive 1 0 1 2 ∷ []

-- a file with a fault, loaded over one without
pub record FaultSample : Type 0 where
  pub refuses : load_answer (start_of cut_file) ≡ Err (fault Command 64 Behaviour)
  pub leaves : (c : Meaning) → next (load cut_file) (with_file exchange_file c) ≡ with_file exchange_file c

-- a step table with one place too few: it stays, and no run is made
pub record NoRoomSample : Type 0 where
  pub lists : list_answer 1087 ≡ Err (record {})
  pub stays : (m : Model) (held : List Step) → listed 1087 m held ≡ held
  pub runs : (r : Run) → run_answer 1087 r ≡ Err (record {})

-- a run in place of the take, by a runner, with a budget of 5 where none is said
pub record RunSample (c : Meaning) (runner : Runner) : Type 0 where
  -- the chooser picks the one step
  pub takes_one : (free : ℕ) → 0 < free → PicksStep c runner → run_answered c runner 5 free ≡ Ok (1, NoClosedStep)
  pub enters :
      (free : ℕ) → 0 < free → PicksStep c runner →
      entered (run runner 5 1088 free) (with_file exchange_file c) ≡ exchange_record ∷ []
  pub leaves :
      (free : ℕ) → 0 < free → PicksStep c runner →
      (next (run runner 5 1088 free) (with_file exchange_file c)).model ≡ (with_step free c).model
  -- it declines
  pub declines : (free : ℕ) → 0 < free → DeclinesStep c runner → run_answered c runner 5 free ≡ Ok (0, Declined)
  -- whatever it answers
  pub full : run_answered c runner 5 0 ≡ Ok (0, JournalFull)
  pub no_budget : (free : ℕ) → run_answered c runner 0 free ≡ Ok (0, BudgetSpent)

pub record Samples : Type 0 where
  pub taking : TakeSample
  pub again : AgainSample
  pub unhidden : OpenSample
  pub faulty : FaultSample
  pub no_room : NoRoomSample
  pub running : (c : Meaning) (runner : Runner) → RunSample c runner
