use Rattle.std.proofs.Common.{arith}
use Rattle.classes.specs.Starts.{unknown_row}
use Rattle.classes.proofs.Starting.{row_put}
use Rattle.classes.proofs.fresh.start_rows.Goals as goal

pub loop-i-preserved : goal.loop-i-preserved
loop-i-preserved c = row_put c.loop-i.i _ _ unknown_row _ _ (omega arith) c.loop-i.invariant c.start.ensures
