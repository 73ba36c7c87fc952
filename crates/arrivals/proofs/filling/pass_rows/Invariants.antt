use Rattle.arrivals.specs.Filling.{RowsPast}
use Rattle.arrivals.proofs.filling.pass_rows.Given as goal

abbrev pub invariant-loop-p : goal.invariant-loop-p
invariant-loop-p l = RowsPast l.initial.table l.table l.first l.p l.command
