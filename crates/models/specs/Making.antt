-- The table of processes that a file starts with.
use Rattle.std.specs.Prelude.{◌≡◌, ℕ, ◌<◌, true, List, slice_index, slice_index_or}
use Rattle.files.specs.Files.{Summary}
use Rattle.admission.specs.Read.{tree_in}
use Rattle.steps.specs.Models.{fresh, process_classes}
use Rattle.tables.specs.declared.table.Table.{Table}
use Rattle.tables.specs.Rows.{no_entry, rows_of}
use Rattle.tables.specs.Views.{process_in, sound_entry}

-- process p is a fresh one of its class
pub record FreshProcess (f : List ℕ) (s : Summary) (t : Table) (p : ℕ) : Type 0 where
  pub sound : sound_entry f s.0 (slice_index_or t.entries p no_entry) (rows_of t p) ≡ true
  pub is : process_in f t p ≡ fresh (tree_in f s).classes (slice_index (process_classes (tree_in f s).behaviour) p)

pub record FreshTable (f : List ℕ) (s : Summary) (t : Table) (count : ℕ) : Type 0 where
  pub each : (p : ℕ) → p < count → FreshProcess f s t p
