-- Choosers, as words name them.
use Rattle.std.specs.Prelude.{◌≡◌, ℕ, List, [], ◌∷◌, ◌++◌, vec_items, codes, decimal}
use Rattle.std.specs.List.{flat_map}
use Rattle.rota.specs.declared.choice.Fair.{Fair}
use Rattle.rota.specs.declared.choice.Fair.TheVariants.{Rotation, Seniority}
use Rattle.rota.specs.declared.choice.Choice.{Choice}
use Rattle.rota.specs.declared.choice.Choice.TheVariants.{Script, Plain, Hold}
use Rattle.rota.specs.declared.choice.ChoiceFault.{ChoiceFault}
use Rattle.rota.specs.declared.choice.ChoiceFault.TheVariants.{NoSuchChooser, NotANumber, NoMemory}
use Rattle.rota.specs.Words.{Number}

abbrev pub fair_name : Fair → List ℕ
fair_name Rotation = codes "rotation"
fair_name Seniority = codes "seniority"

-- one word for each number, 0 to 65535
abbrev pub Numbers : List (List ℕ) → List ℕ → Type 0
Numbers [] [] = Unit {0}
Numbers [] (n ∷ ns) = ⊥
Numbers (w ∷ ws) [] = ⊥
Numbers (w ∷ ws) (n ∷ ns) = Number 65535 w n × Numbers ws ns

-- the words of a chooser
abbrev pub Chooses : List (List ℕ) → Choice → Type 0
Chooses ws (Script ns) = (rest : List (List ℕ)) × (ws ≡ codes "script" ∷ rest) × Numbers rest (vec_items ns)
Chooses ws (Plain f) = ws ≡ fair_name f ∷ []
Chooses ws (Hold k f) = (word : List ℕ) × (ws ≡ codes "hold" ∷ word ∷ fair_name f ∷ []) × Number 255 word k

-- no chooser has these words, unless the memory for a script ran out
abbrev pub Refused : List (List ℕ) → ChoiceFault → Type 0
Refused ws NoSuchChooser = (c : Choice) → Chooses ws c → ⊥
Refused ws NotANumber = (c : Choice) → Chooses ws c → ⊥
Refused ws NoMemory = Unit {0}

-- what is written of a fault
abbrev pub choice_fault_text : ChoiceFault → List ℕ
choice_fault_text NoSuchChooser = codes "no such chooser"
choice_fault_text NotANumber = codes "a script has numbers from 0 to 65535, and hold one from 0 to 255"
choice_fault_text NoMemory = codes "no memory for the script"

-- a number with a space before it
abbrev pub number_word : ℕ → List ℕ
number_word n = codes " " ++ decimal n

-- how a chooser is written: as words name it
abbrev pub choice_text : Choice → List ℕ
choice_text (Script ns) = codes "script" ++ flat_map number_word (vec_items ns)
choice_text (Plain f) = fair_name f
choice_text (Hold k f) = codes "hold " ++ (decimal k ++ (codes " " ++ fair_name f))
