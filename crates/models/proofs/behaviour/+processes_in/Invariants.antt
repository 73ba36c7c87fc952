use Rattle.std.proofs.Common.{◌-◌, length}
use Rattle.models.proofs.behaviour.+processes_in.Given as goal

abbrev pub decreases-processes_in : goal.decreases-processes_in
decreases-processes_in l = length l.file.now - l.at
