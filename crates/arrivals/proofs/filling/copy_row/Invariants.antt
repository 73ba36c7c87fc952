use Rattle.arrivals.specs.Filling.{in_row}
use Rattle.arrivals.proofs.Rows.{RowPart}
use Rattle.arrivals.proofs.filling.copy_row.Given as goal

abbrev pub invariant-loop-c : goal.invariant-loop-c
invariant-loop-c l = RowPart l.initial.table l.table l.row (in_row l.initial.table l.from) l.c
