use Rattle.std.proofs.Common.{◌-◌}
use Rattle.show.proofs.show.Page.+show_statement.Given as goal

abbrev pub decreases-show_statement : goal.decreases-show_statement
decreases-show_statement l = 33 - l.level
