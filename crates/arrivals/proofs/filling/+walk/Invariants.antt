use Rattle.std.proofs.Common.{◌-◌, length}
use Rattle.arrivals.proofs.filling.+walk.Given as goal

abbrev pub decreases-walk : goal.decreases-walk
decreases-walk l = length l.file.now - l.at
