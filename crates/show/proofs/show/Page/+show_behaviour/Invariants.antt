use Rattle.std.proofs.Common.{◌-◌}
use Rattle.show.proofs.show.Page.+show_behaviour.Given as goal

abbrev pub decreases-show_behaviour : goal.decreases-show_behaviour
decreases-show_behaviour l = 33 - l.level
