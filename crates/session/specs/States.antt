-- How the state of an engine is written.
use Rattle.std.specs.Prelude.{ℕ, List, [], ◌∷◌, ◌++◌, length, codes, decimal}
use Rattle.std.specs.List.{flat_map, range_with_len}
use Rattle.values.specs.Values.{Val}
use Rattle.commands.specs.Texts.{spaced}
use Rattle.records.specs.Texts.{value_word}
use Rattle.steps.specs.Taking.{process_numbered}
use Rattle.models.specs.declared.model.Model.{Model}
use Rattle.models.specs.Reading.{places_left}
use Rattle.models.specs.Views.{model_of}

-- the places of the statements that remain, first to last
abbrev pub left_text : List ℕ → List ℕ
left_text [] = codes " ended"
left_text (q ∷ qs) = flat_map spaced (q ∷ qs)

-- a process, with its variables
abbrev pub process_text : ℕ → List ℕ → List Val → List ℕ
process_text p places vs = codes "process " ++ (decimal p ++ (codes ":" ++ (left_text places ++ (codes ";" ++ flat_map value_word vs))))

abbrev pub process_line : Model → ℕ → List ℕ
process_line m p = codes "\n" ++ process_text p (places_left m p) (process_numbered (model_of m) p).variables

-- how many processes there are, and each on a line
abbrev pub state_text : Model → List ℕ
state_text m =
    let count = length (model_of m).processes in
    codes "processes " ++ (decimal count ++ flat_map (process_line m) (range_with_len 0 count))
