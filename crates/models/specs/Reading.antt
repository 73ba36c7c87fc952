-- What can be read of a model's memory beside the model that it stands for.
use Rattle.std.specs.Prelude.{ℕ, List, [], nat_lt, if◌then◌else◌, slice_index_or}
use Rattle.processes.specs.Places.{places_of}
use Rattle.tables.specs.Rows.{no_entry}
use Rattle.models.specs.declared.model.Model.{Model}

-- the places of the statements that remain of process p, first to last; none from the count on
abbrev pub places_left : Model → ℕ → List ℕ
places_left m p = if nat_lt p m.count then places_of (slice_index_or m.table.entries p no_entry).left else []
