use Rattle.std.proofs.Common.{arith}
use Rattle.arrivals.proofs.Last.{no_part, one_part}
use Rattle.arrivals.proofs.filling.copy_process.Goals as goal

pub loop-q-init : goal.loop-q-init
loop-q-init c = no_part _ _ _

pub loop-q-preserved : goal.loop-q-preserved
loop-q-preserved c = one_part _ _ _ _ _ _ c.requires.other c.loop-q-test.true c.loop-q.invariant c.copy_row.ensures

pub returns : goal.returns
returns c =
    record {
      same = λ q d h k. c.loop-q.invariant.same q d (omega arith) k;
      others = c.loop-q.invariant.others;
    }
