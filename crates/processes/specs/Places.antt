-- The places of the statements that remain of a process.
use Rattle.std.specs.Prelude.{ℕ, List, [], ◌∷◌, Some, None, Option, reverse}
use Rattle.values.specs.Few.{listed}
use Rattle.processes.specs.declared.left.Left.{Left}

-- the last stored is the first
abbrev pub places_of : Left → List ℕ
places_of l = reverse (listed l.places)

abbrev pub split_places : Option (ℕ × Left) → List ℕ
split_places None = []
split_places (Some p) = p.0 ∷ places_of p.1
