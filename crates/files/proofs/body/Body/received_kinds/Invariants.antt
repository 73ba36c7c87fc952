use Rattle.std.proofs.Common.{◌≡◌, length, take}
use Rattle.files.specs.Bodies.{kinds_in}
use Rattle.files.specs.KindLists.{kinds_list}
use Rattle.files.specs.Statements.{kinds_of}
use Rattle.files.proofs.body.Body.received_kinds.Given as goal

abbrev pub invariant-loop-variable : goal.invariant-loop-variable
invariant-loop-variable l =
    (kinds_list l.kinds ≡ kinds_of (kinds_in l.self) (take l.variable-index l.list))
    × (length (kinds_list l.kinds) ≡ l.variable-index)
