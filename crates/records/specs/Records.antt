-- Journal records.
use Rattle.std.specs.Prelude.{cond, List, [], ◌∷◌, length, pos, Some, None, Option, nat_le, slice_index_or}
use Rattle.values.specs.declared.row.Row.{Row}
use Rattle.records.specs.declared.step.Step.{Step}
use Rattle.records.specs.declared.record.Record.{Record}

-- the row of the unknown Integer
abbrev pub unknown_row : Row
unknown_row = record { kind = 1; known = 0; number = pos 0 }

-- the record of a step with these values: the first four of them, and unknown Integers where there are fewer
abbrev pub record_with : Step → List Row → Record
record_with s vs = record { step = s; count = length vs; values = slice_index_or vs 0 unknown_row ∷ slice_index_or vs 1 unknown_row ∷ slice_index_or vs 2 unknown_row ∷ slice_index_or vs 3 unknown_row ∷ [] }

-- there is none for more than four values
abbrev pub record_of : Step → List Row → Option Record
record_of s vs = cond (nat_le (length vs) 4) (Some (record_with s vs)) None
