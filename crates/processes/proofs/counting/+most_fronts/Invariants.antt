use Rattle.std.proofs.Common.{◌-◌, length}
use Rattle.processes.proofs.counting.+most_fronts.Given as goal

abbrev pub decreases-most_fronts : goal.decreases-most_fronts
decreases-most_fronts l = length l.file.now - l.at
