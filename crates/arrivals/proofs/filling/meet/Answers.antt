use Rattle.std.proofs.Common.{arith}
use Rattle.arrivals.proofs.Columns.{all_met}
use Rattle.arrivals.proofs.filling.meet.Goals as goal

pub returns : goal.returns
returns c = all_met _ _ _ _ _ _ (omega arith) (omega arith) (omega arith) c.copy_columns.ensures c.copy_columns-2.ensures
