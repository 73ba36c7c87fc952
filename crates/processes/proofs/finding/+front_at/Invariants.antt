use Rattle.std.proofs.Common.{◌-◌, length}
use Rattle.processes.proofs.finding.+front_at.Given as goal

abbrev pub decreases-front_at : goal.decreases-front_at
decreases-front_at l = length l.file.now - l.at
