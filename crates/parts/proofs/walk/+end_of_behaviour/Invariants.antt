use Rattle.std.proofs.Common.{◌-◌, length}
use Rattle.parts.proofs.walk.+end_of_behaviour.Given as goal

abbrev pub decreases-end_of_behaviour : goal.decreases-end_of_behaviour
decreases-end_of_behaviour l = length l.file.now - l.at
