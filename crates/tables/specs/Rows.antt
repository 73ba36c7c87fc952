-- The table of processes in the code.
use Rattle.std.specs.Prelude.{ℕ, List, [], get_or, take, slice_index_or}
use Rattle.std.proofs.Common.{zero-le}
use Rattle.values.specs.declared.row.Row.{Row}
use Rattle.tables.specs.declared.table.Entry.{Entry}
use Rattle.tables.specs.declared.table.Table.{Table}

-- what stands behind the table's end
abbrev pub no_entry : Entry
no_entry = record { class = 0; variables = 0; left = record { places = record { count = 0; room = []; within = zero-le } } }

-- the rows of a process's variables
abbrev pub rows_of : Table → ℕ → List Row
rows_of t p = take (get_or t.entries p no_entry).variables (slice_index_or t.rows p [])
