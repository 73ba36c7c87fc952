use Rattle.std.proofs.Common.{◌-◌, length}
use Rattle.offering.proofs.walk.+put_fronts.Given as goal

abbrev pub decreases-put_fronts : goal.decreases-put_fronts
decreases-put_fronts l = length l.file.now - l.at
