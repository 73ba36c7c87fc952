-- How the answers of calls are written.
use Rattle.std.specs.Prelude.{ℕ, List, ◌++◌, codes, decimal, Ok, Err}
use Rattle.std.specs.List.{flat_map}
use Rattle.answers.specs.Numbers.{room_number, take_number}
use Rattle.answers.specs.Texts.{fault_text, refused_text, stop_text}
use Rattle.records.specs.declared.record.Record.{Record}
use Rattle.records.specs.declared.step.Step.{Step}
use Rattle.records.specs.Texts.{record_text, listing_text}
use Rattle.calling.specs.declared.call.Answer.{Answer}
use Rattle.calling.specs.declared.call.Answer.TheVariants.{Loaded, Listed, Taken, Ran}

-- a record with a space before it, and the one that a step entered that was taken
abbrev pub record_word : Record → List ℕ
record_word r = codes " " ++ record_text r

abbrev pub took_text : List Record → List ℕ
took_text rs = codes "took" ++ flat_map record_word rs

-- what is written of a call's answer, by the steps that a list wrote and the records that were entered
abbrev pub answer_text : Answer → List Step → List Record → List ℕ
answer_text (Loaded (Ok done)) ss rs = codes "loaded"
answer_text (Loaded (Err x)) ss rs = fault_text x
answer_text (Listed (Ok done)) ss rs = listing_text ss
answer_text (Listed (Err x)) ss rs = refused_text (room_number x)
answer_text (Taken (Ok done)) ss rs = took_text rs
answer_text (Taken (Err x)) ss rs = refused_text (take_number x)
answer_text (Ran (Ok ran)) ss rs = codes "ran " ++ (decimal ran.0 ++ (codes " " ++ stop_text ran.1))
answer_text (Ran (Err x)) ss rs = refused_text (room_number x)
