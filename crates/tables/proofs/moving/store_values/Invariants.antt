use Rattle.std.proofs.Common.{◌≡◌, drop}
use Rattle.processes.specs.Classes.{stored}
use Rattle.processes.specs.Evaluation.{values_of}
use Rattle.tables.proofs.moving.store_values.Given as goal

abbrev pub invariant-loop-i : goal.invariant-loop-i
invariant-loop-i l = stored (values_of l.rows) (drop l.i l.targets) (values_of (drop l.i l.got)) ≡ stored (values_of l.initial.rows) l.targets (values_of l.got)
