-- How a front is written.
use Rattle.std.specs.Prelude.{ℕ, List, ◌++◌, codes, decimal}
use Rattle.std.specs.List.{flat_map}
use Rattle.commands.specs.Texts.{spaced}
use Rattle.values.specs.Rows.{value_of_row}
use Rattle.processes.specs.declared.front.Action.{Action}
use Rattle.processes.specs.declared.front.Action.TheVariants.{Internal, Store, Send, Receive}
use Rattle.processes.specs.Found.{values_in, variables_in}
use Rattle.records.specs.Texts.{value_word}

abbrev pub action_text : Action → List ℕ
action_text Internal = codes "internal"
action_text (Store v row) = codes "set " ++ (decimal v ++ value_word (value_of_row row))
action_text (Send c m s) = codes "send " ++ (decimal c ++ (spaced m ++ flat_map value_word (values_in s)))
action_text (Receive c m t) = codes "receive " ++ (decimal c ++ (spaced m ++ flat_map spaced (variables_in t)))

-- its number, what it does, and the places of the statements that it leaves
abbrev pub line_text : ℕ → Action → List ℕ → List ℕ
line_text n a places = decimal n ++ (codes " " ++ (action_text a ++ (codes " leaves" ++ flat_map spaced places)))
