-- A table after a front of one process.
use Rattle.std.specs.Prelude.{◌≡◌, ℕ, List, [], length, slice_index_or, slice_set}
use Rattle.values.specs.declared.row.Row.{Row}
use Rattle.values.specs.Values.{Val}
use Rattle.processes.specs.declared.front.Front.{Front}
use Rattle.processes.specs.declared.left.Left.{Left}
use Rattle.processes.specs.Classes.{after}
use Rattle.processes.specs.Evaluation.{values_of}
use Rattle.processes.specs.Found.{action_of, own_work}
use Rattle.tables.specs.declared.table.Entry.{Entry}
use Rattle.tables.specs.declared.table.Table.{Table}
use Rattle.tables.specs.Rows.{no_entry}

-- the entry of a process with something else left
abbrev pub with_left : Entry → Left → Entry
with_left e l = record { class = e.class; variables = e.variables; left = l }

-- only process p changed: what it has left, and its rows
pub record Advanced (before after_it : Table) (p : ℕ) (x : Front) (got : List Val) : Type 0 where
  pub eight_entries : length before.entries ≡ 8
  pub eight_rows : length before.rows ≡ 8
  pub entries : after_it.entries ≡ slice_set before.entries p (with_left (slice_index_or before.entries p no_entry) x.leaves)
  pub rows : (new : List Row) × (after_it.rows ≡ slice_set before.rows p new) × (values_of new ≡ after (own_work (values_of (slice_index_or before.rows p [])) x.action) (action_of x.action) got)
