use Rattle.std.proofs.Common.{◌-◌, length}
use Rattle.processes.proofs.evaluation.+evaluate.Given as goal

abbrev pub decreases-evaluate : goal.decreases-evaluate
decreases-evaluate l = length l.file.now - l.at
