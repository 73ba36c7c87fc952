use Rattle.std.proofs.Common.{◌-◌, length}
use Rattle.models.proofs.behaviour.+process_class.Given as goal

abbrev pub decreases-process_class : goal.decreases-process_class
decreases-process_class l = length l.file.now - l.at
