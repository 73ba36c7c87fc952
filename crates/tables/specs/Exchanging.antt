-- The values that an action sends, and the kinds that it asks for.
use Rattle.std.specs.Prelude.{List, []}
use Rattle.values.specs.declared.few.Few.{Few}
use Rattle.values.specs.declared.kind.Kind.{Kind}
use Rattle.values.specs.declared.row.Row.{Row}
use Rattle.values.specs.Few.{listed}
use Rattle.values.specs.Values.{Val}
use Rattle.processes.specs.Fronts.{Action, internal, sends, receives}
use Rattle.steps.specs.Steps.{target_kinds}

abbrev pub wanted_by : List Val → Action → List Kind
wanted_by vs internal = []
wanted_by vs (sends c m xs) = []
wanted_by vs (receives c m ws) = target_kinds vs ws

abbrev pub sent_by : Action → List Val
sent_by internal = []
sent_by (sends c m xs) = xs
sent_by (receives c m ws) = []

-- the rows of some values
abbrev pub rows_in : Few Row 4 → List Row
rows_in s = listed s
