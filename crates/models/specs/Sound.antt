-- What the memory of a model keeps.
use Rattle.std.specs.Prelude.{◌≡◌, ℕ, ◌<◌, Bool, true, false, ◌&&◌, List, Option, Ok, Err, ◌==◌, slice_index_or}
use Rattle.heads.specs.Checked.{Checked}
use Rattle.files.specs.Files.{Summary, check_file, levels}
use Rattle.parts.specs.Parts.{behaviour_in}
use Rattle.arrivals.specs.Climbing.{arrival_table}
use Rattle.tables.specs.declared.table.Table.{Table}
use Rattle.tables.specs.Rows.{no_entry, rows_of}
use Rattle.tables.specs.Views.{sound_entry}

-- the check found this
abbrev pub found : Checked Summary → Summary → Bool
found (Ok u) s = u.0 == s.0 && (u.1 == s.1 && u.2 == s.2)
found (Err x) s = false

-- where there are processes the file is admitted
abbrev pub AdmittedFile : List ℕ → ℕ → ℕ → ℕ → Type 0
AdmittedFile f n at count = 0 < count → found (check_file f) (n, at, count) ≡ true

-- the table of arrivals is that of its behaviour
abbrev pub ArrivalsOfFile : List ℕ → ℕ → List (Option ℕ) → ℕ → Type 0
ArrivalsOfFile f at channels count = 0 < count → channels ≡ arrival_table (behaviour_in levels f at)

-- and each process belongs to its class
abbrev pub SoundProcesses : List ℕ → ℕ → Table → ℕ → Type 0
SoundProcesses f n t count = (p : ℕ) → p < count → sound_entry f n (slice_index_or t.entries p no_entry) (rows_of t p) ≡ true
