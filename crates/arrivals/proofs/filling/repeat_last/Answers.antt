use Rattle.std.proofs.Common.{arith}
use Rattle.arrivals.proofs.Last.{none_repeated, one_repeated, all_repeated}
use Rattle.arrivals.proofs.filling.repeat_last.Goals as goal

pub loop-p-init : goal.loop-p-init
loop-p-init c = none_repeated _ _

pub loop-p-preserved : goal.loop-p-preserved
loop-p-preserved c = one_repeated _ _ _ _ _ c.requires.some (omega arith) c.loop-p.invariant c.copy_process.ensures

pub returns : goal.returns
returns c = all_repeated _ _ _ _ _ c.requires.some c.requires.within (omega arith) c.copy_columns.ensures c.loop-p.invariant
