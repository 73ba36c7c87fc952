use Rattle.std.proofs.Common.{◌≡◌, ℕ, List, ◌++◌, length}
use Rattle.std.specs.Fmt.{HasWritten, IsPlainFormatter}
use Rattle.std.specs.List.{flat_map}
use Rattle.commands.specs.Texts.{spaced}
use Rattle.processes.specs.Places.{places_of}
use Rattle.inspect.proofs.line.PlacesDisplay.fmt.Given as goal

-- what is written is that of the places before those that are left
abbrev pub invariant-loop-place : goal.invariant-loop-place
invariant-loop-place g l =
    IsPlainFormatter l.initial.f
    → (before : List ℕ) × (before ++ places_of l.left ≡ places_of l.initial.left) × HasWritten g.W.Write.write_str_gives l.initial.f (flat_map spaced before) l.f

abbrev pub decreases-loop-place : goal.decreases-loop-place
decreases-loop-place g l = length (places_of l.left)
