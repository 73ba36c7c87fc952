-- The operands of a session's commands, as words write them.
use Rattle.std.specs.Prelude.{◌≡◌, ℕ, ◌≤◌, ◌⊎◌, List, [], ◌∷◌, map, length, drop, Ok, Err, Result, slice_index_or}
use Rattle.values.specs.declared.row.Row.{Row}
use Rattle.values.specs.declared.value.TextFault.{TextFault}
use Rattle.values.specs.Rows.{row_of}
use Rattle.values.specs.Texts.{read_value}
use Rattle.values.specs.Values.{Val}
use Rattle.records.specs.declared.step.Step.{Step}
use Rattle.rota.specs.Words.{Number}

-- the room of a step table: 1,088 where no word states it
abbrev pub TableRoom : List (List ℕ) → ℕ → Type 0
TableRoom ws n = ((ws ≡ []) × (n ≡ 1088)) ⊎ ((w : List ℕ) × (ws ≡ w ∷ []) × Number 65535 w n)

-- the room of a journal
abbrev pub JournalRoom : List (List ℕ) → ℕ → Type 0
JournalRoom ws n = (w : List ℕ) × (ws ≡ w ∷ []) × Number 65535 w n

-- a budget, and the room of a step table
abbrev pub BudgetRoom : List (List ℕ) → ℕ → ℕ → Type 0
BudgetRoom ws budget room =
    (w : List ℕ) × (rest : List (List ℕ)) × (ws ≡ w ∷ rest) × Number 4294967295 w budget × TableRoom rest room

-- seven words that write the fields of a step, each a byte
pub record Fields (k p f q g c m : List ℕ) (s : Step) : Type 0 where
  pub kind : Number 255 k s.kind
  pub process : Number 255 p s.process
  pub front : Number 255 f s.front
  pub partner : Number 255 q s.partner
  pub partner_front : Number 255 g s.partner_front
  pub channel : Number 255 c s.channel
  pub message : Number 255 m s.message

-- at least seven words, whose first seven write the step
abbrev pub StepFields : List (List ℕ) → Step → Type 0
StepFields ws s = (7 ≤ length ws) × Fields (slice_index_or ws 0 []) (slice_index_or ws 1 []) (slice_index_or ws 2 []) (slice_index_or ws 3 []) (slice_index_or ws 4 []) (slice_index_or ws 5 []) (slice_index_or ws 6 []) s

-- the row of the value that a word writes
abbrev pub as_row : Result Val TextFault → Result Row TextFault
as_row (Ok v) = Ok (row_of v)
as_row (Err e) = Err e

abbrev pub read_row : List ℕ → Result Row TextFault
read_row word = as_row (read_value word)

-- each word writes the value of a row
abbrev pub ValueWords : List (List ℕ) → List Row → Type 0
ValueWords ws rows = map read_row ws ≡ map Ok rows

-- the fields of a step, and values
abbrev pub StepValues : List (List ℕ) → Step → List Row → Type 0
StepValues ws s rows = StepFields ws s × ValueWords (drop 7 ws) rows
