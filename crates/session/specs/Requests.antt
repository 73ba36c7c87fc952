-- What the words of a line ask of a session.
use Rattle.std.specs.Prelude.{◌≡◌, ℕ, Bool, false, List, [], ◌∷◌, vec_items, codes, Ok}
use Rattle.std.specs.List.{list_any, concat}
use Rattle.std.specs.Str.{bytes_eq}
use Rattle.hex.specs.Hex.{decode_of}
use Rattle.inspect.specs.Words as hex_words
use Rattle.rota.specs.Choices as choices
use Rattle.session.specs.declared.request.Request.{Request}
use Rattle.session.specs.declared.request.Request.TheVariants.{Load, List as ListR, Take, Run, Choose, Journal, NewJournal, State}
use Rattle.session.specs.declared.fault.RequestFault.{RequestFault}
use Rattle.session.specs.declared.fault.RequestFault.TheVariants.{NoSuchCommand, NoMemory, Hex, List as ListF, Take as TakeF, Run as RunF, Chooser, Journal as JournalF, State as StateF}
use Rattle.records.specs.declared.step.Step.{Step}
use Rattle.values.specs.declared.row.Row.{Row}
use Rattle.session.specs.Operands.{TableRoom, JournalRoom, BudgetRoom, StepValues}

-- the words are a command of this name, and these operands
abbrev pub Command : List ℕ → List (List ℕ) → (List (List ℕ) → Type 0) → Type 0
Command name ws operands = (rest : List (List ℕ)) × (ws ≡ name ∷ rest) × operands rest

abbrev pub Asks : List (List ℕ) → Request → Type 0
Asks ws (Load file) = Command (codes "load") ws (λ rest. decode_of (concat rest) ≡ Ok (vec_items file))
Asks ws (ListR room) = Command (codes "list") ws (λ rest. TableRoom rest room)
Asks ws (Take s rows) = Command (codes "take") ws (λ rest. StepValues rest s (vec_items rows))
Asks ws (Run budget room) = Command (codes "run") ws (λ rest. BudgetRoom rest budget room)
Asks ws (Choose c) = Command (codes "chooser") ws (λ rest. choices.Chooses rest c)
Asks ws Journal = ws ≡ codes "journal" ∷ []
Asks ws (NewJournal room) = Command (codes "journal") ws (λ rest. JournalRoom rest room)
Asks ws State = ws ≡ codes "state" ∷ []

-- the names of a session's commands
abbrev pub commands : List (List ℕ)
commands = codes "load" ∷ codes "list" ∷ codes "take" ∷ codes "run" ∷ codes "chooser" ∷ codes "journal" ∷ codes "state" ∷ []

-- the first word is one of them
abbrev pub is_command : List (List ℕ) → Bool
is_command [] = false
is_command (w ∷ ws) = list_any (bytes_eq w) commands

-- why words ask for nothing: they name a command, but these are not its operands; nothing is said of memory that runs out
abbrev pub Refused : List (List ℕ) → RequestFault → Type 0
Refused ws NoSuchCommand = is_command ws ≡ false
Refused ws NoMemory = Unit {0}
Refused ws (Hex x) = Command (codes "load") ws (λ rest. hex_words.Refused rest x)
Refused ws ListF = Command (codes "list") ws (λ rest. (room : ℕ) → TableRoom rest room → ⊥)
Refused ws TakeF = Command (codes "take") ws (λ rest. (s : Step) (rows : List Row) → StepValues rest s rows → ⊥)
Refused ws RunF = Command (codes "run") ws (λ rest. (budget room : ℕ) → BudgetRoom rest budget room → ⊥)
Refused ws (Chooser x) = Command (codes "chooser") ws (λ rest. choices.Refused rest x)
Refused ws JournalF = Command (codes "journal") ws (λ rest. ((rest ≡ []) → ⊥) × ((room : ℕ) → JournalRoom rest room → ⊥))
Refused ws StateF = Command (codes "state") ws (λ rest. (rest ≡ []) → ⊥)
