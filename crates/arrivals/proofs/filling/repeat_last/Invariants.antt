use Rattle.arrivals.proofs.Last.{RepeatedTo}
use Rattle.arrivals.proofs.filling.repeat_last.Given as goal

abbrev pub invariant-loop-p : goal.invariant-loop-p
invariant-loop-p l = RepeatedTo l.initial.table l.table l.count l.p
