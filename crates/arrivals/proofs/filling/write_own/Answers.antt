use Rattle.std.proofs.Common.{arith}
use Rattle.arrivals.specs.Filling.{in_row}
use Rattle.arrivals.proofs.ByteForms.{some_form}
use Rattle.arrivals.proofs.Rows.{row_none, row_more, row_done}
use Rattle.arrivals.proofs.filling.write_own.Goals as goal

pub loop-c-init : goal.loop-c-init
loop-c-init c = row_none _ _ _

pub loop-c-preserved : goal.loop-c-preserved
unfolding in_row
loop-c-preserved c = row_more _ _ _ _ _ _ (omega arith) (omega arith) (some_form c.loop-c.c (omega arith)) c.loop-c.invariant

pub returns : goal.returns
returns c = row_done _ _ _ _ _ (omega arith) c.loop-c.invariant
