use Rattle.std.proofs.Common.{◌+◌}
use Rattle.arrivals.specs.Filling.{Copied}
use Rattle.arrivals.proofs.filling.copy_cells.Given as goal

abbrev pub invariant-loop-q : goal.invariant-loop-q
invariant-loop-q l = Copied l.initial.table l.table l.p (l.p + 1) l.left l.q l.source
