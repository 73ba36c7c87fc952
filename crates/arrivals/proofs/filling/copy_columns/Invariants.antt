use Rattle.arrivals.specs.Filling.{Copied}
use Rattle.arrivals.proofs.filling.copy_columns.Given as goal

abbrev pub invariant-loop-p : goal.invariant-loop-p
invariant-loop-p l = Copied l.initial.table l.table l.first l.p l.left l.right l.source
