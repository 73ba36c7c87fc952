-- What the processes of a table offer.
use Rattle.std.specs.Prelude.{◌≡◌, ℕ, ◌<◌, ◌≤◌, true, List, map, Ok, slice_index_or}
use Rattle.values.specs.declared.row.Row.{Row}
use Rattle.files.specs.Files.{Summary, check_file}
use Rattle.listing.specs.declared.offer.Offer.{Offer}
use Rattle.listing.specs.Offers.{offer_of}
use Rattle.steps.specs.Models.{Process}
use Rattle.steps.specs.Steps.{offers_of}
use Rattle.tables.specs.declared.table.Entry.{Entry}
use Rattle.tables.specs.declared.table.Table.{Table}
use Rattle.tables.specs.Rows.{no_entry, rows_of}
use Rattle.tables.specs.Views.{sound_entry}

-- a process of an admitted file with so many classes
pub record SoundProcess (f : List ℕ) (n : ℕ) (e : Entry) (rows : List Row) : Type 0 where
  pub admitted : (s : Summary) × (check_file f ≡ Ok s) × (s.0 ≡ n)
  pub sound : sound_entry f n e rows ≡ true

-- the first processes of a table
pub record SoundTable (f : List ℕ) (n : ℕ) (t : Table) (count : ℕ) : Type 0 where
  pub each : (p : ℕ) → p < count → SoundProcess f n (slice_index_or t.entries p no_entry) (rows_of t p)
  pub few : count ≤ 8

-- the offers of a process as others see them
abbrev pub seen_offers : ℕ → Process → List Offer
seen_offers p one = map offer_of (offers_of p one)
