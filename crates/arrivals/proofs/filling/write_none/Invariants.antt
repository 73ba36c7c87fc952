use Rattle.std.proofs.Common.{None}
use Rattle.arrivals.proofs.Rows.{RowPart}
use Rattle.arrivals.proofs.filling.write_none.Given as goal

abbrev pub invariant-loop-c : goal.invariant-loop-c
invariant-loop-c l = RowPart l.initial.table l.table l.row (λ c. None) l.c
