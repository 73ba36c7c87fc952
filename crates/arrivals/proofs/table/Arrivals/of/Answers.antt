use Rattle.std.proofs.Common.{arith}
use Rattle.arrivals.proofs.Complete.{all_told}
use Rattle.arrivals.proofs.Last.{some_process}
use Rattle.arrivals.proofs.table.Arrivals.of.Goals as goal

pub walk-count-requires : goal.walk-count-requires
walk-count-requires c = (c.requires.0, c.requires.1, c.requires.2, omega (arith, c.requires.2.few))

pub repeat_last-requires-clause-some : goal.repeat_last-requires-clause-some
repeat_last-requires-clause-some c = omega (arith, c.walk-count.ensures.end c.requires.1 c.requires.2.here, some_process c.requires.1)

pub repeat_last-requires-clause-within : goal.repeat_last-requires-clause-within
repeat_last-requires-clause-within c = omega (arith, c.walk-count.ensures.end c.requires.1 c.requires.2.here, c.requires.2.few)

pub returns : goal.returns
returns c b s = all_told _ _ b c.walk-count.result (omega (arith, c.walk-count.ensures.end b s)) (c.walk-count.ensures.filled b s) c.repeat_last.ensures (omega arith)
