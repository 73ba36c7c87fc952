-- How records are written.
use Rattle.std.specs.Prelude.{ℕ, List, ◌++◌, map, length, take, codes, decimal}
use Rattle.std.specs.List.{flat_map}
use Rattle.values.specs.declared.row.Row.{Row}
use Rattle.values.specs.Rows.{value_of_row}
use Rattle.values.specs.Texts.{text_of}
use Rattle.values.specs.Values.{Val}
use Rattle.records.specs.declared.record.Record.{Record}
use Rattle.records.specs.declared.step.Step.{Step}
use Rattle.records.specs.Steps.{step_text}

-- a value with a space before it
abbrev pub value_word : Val → List ℕ
value_word v = codes " " ++ text_of v

-- the values of some rows
abbrev pub values_text : List Row → List ℕ
values_text rows = flat_map value_word (map value_of_row rows)

-- the seven numbers of the step, how many values there are, and the values
abbrev pub record_text : Record → List ℕ
record_text r = step_text r.step ++ (codes " " ++ (decimal r.count ++ values_text (take r.count r.values)))

-- a new line before each

abbrev pub step_line : Step → List ℕ
step_line s = codes "\n" ++ step_text s

abbrev pub record_line : Record → List ℕ
record_line r = codes "\n" ++ record_text r

-- how many steps are listed, and each on a line
abbrev pub listing_text : List Step → List ℕ
listing_text ss = codes "listed " ++ (decimal (length ss) ++ flat_map step_line ss)

-- how many records a journal has, and each on a line
abbrev pub journal_text : List Record → List ℕ
journal_text rs = codes "journal " ++ (decimal (length rs) ++ flat_map record_line rs)
