use Rattle.arrivals.proofs.Last.{ProcessPart}
use Rattle.arrivals.proofs.filling.copy_process.Given as goal

abbrev pub invariant-loop-q : goal.invariant-loop-q
invariant-loop-q l = ProcessPart l.initial.table l.table l.from l.p l.q
