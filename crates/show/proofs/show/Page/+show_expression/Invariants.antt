use Rattle.std.proofs.Common.{◌-◌}
use Rattle.show.proofs.show.Page.+show_expression.Given as goal

abbrev pub decreases-show_expression : goal.decreases-show_expression
decreases-show_expression l = 33 - l.level
