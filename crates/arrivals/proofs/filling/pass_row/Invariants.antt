use Rattle.arrivals.specs.Filling.{in_row, past}
use Rattle.arrivals.proofs.Rows.{RowPart}
use Rattle.arrivals.proofs.filling.pass_row.Given as goal

abbrev pub invariant-loop-c : goal.invariant-loop-c
invariant-loop-c l = RowPart l.initial.table l.table l.row (λ c. past l.command (in_row l.initial.table l.row c)) l.c
