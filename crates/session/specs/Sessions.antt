-- What a session is, does and answers.
use Rattle.std.specs.Prelude.{ℕ, List, [], ◌++◌, vec_items, codes, decimal}
use Rattle.records.specs.declared.record.Record.{Record}
use Rattle.records.specs.Texts.{journal_text}
use Rattle.steps.specs.Steps.{steps}
use Rattle.rota.specs.Choices.{choice_text}
use Rattle.rota.specs.Chosen.{meaning_of, named}
use Rattle.engine.specs.Calls.{Call, load, list, take, run, followed, World, next, entered}
use Rattle.engine.specs.Views.{world}
use Rattle.calling.specs.Called.{answer}
use Rattle.session.specs.declared.request.Request.{Request}
use Rattle.session.specs.declared.request.Request.TheVariants.{Load, List as ListR, Take, Run, Choose, Journal, NewJournal, State}
use Rattle.session.specs.declared.session.Session.{Session}
use Rattle.session.specs.Answers.{answer_text}
use Rattle.session.specs.States.{state_text}

-- its engine, beside the chooser that its runs ask
abbrev pub world_of : Session → World
world_of s = world s.engine (meaning_of s.chooser)

-- what is written of a call's answer
abbrev pub call_text : Call → World → List ℕ
call_text call w = answer_text (answer call w) (steps w.model) (entered call w)

-- what is written of a request, by the session that it finds and the records of the journal
abbrev pub request_text : Request → Session → List Record → ℕ → List ℕ
request_text (Load file) s rs free = call_text (load (vec_items file)) (world_of s)
request_text (ListR room) s rs free = call_text (list room) (world_of s)
request_text (Take step values) s rs free = call_text (take step (vec_items values) free) (world_of s)
request_text (Run budget room) s rs free = call_text (run followed budget room free) (world_of s)
request_text (Choose c) s rs free = codes "chooser " ++ choice_text c
request_text Journal s rs free = journal_text rs
request_text (NewJournal room) s rs free = codes "journal of room " ++ decimal room
request_text State s rs free = state_text s.engine.model

-- what it leaves: what its call does, or another chooser
abbrev pub request_leaves : Request → ℕ → World → World
request_leaves (Load file) free w = next (load (vec_items file)) w
request_leaves (ListR room) free w = next (list room) w
request_leaves (Take step values) free w = next (take step (vec_items values) free) w
request_leaves (Run budget room) free w = next (run followed budget room free) w
request_leaves (Choose c) free w = record { model = w.model; chooser = named c }
request_leaves Journal free w = w
request_leaves (NewJournal room) free w = w
request_leaves State free w = w

-- the records that it enters in the journal
abbrev pub request_enters : Request → ℕ → World → List Record
request_enters (Load file) free w = entered (load (vec_items file)) w
request_enters (ListR room) free w = entered (list room) w
request_enters (Take step values) free w = entered (take step (vec_items values) free) w
request_enters (Run budget room) free w = entered (run followed budget room free) w
request_enters (Choose c) free w = []
request_enters Journal free w = []
request_enters (NewJournal room) free w = []
request_enters State free w = []
