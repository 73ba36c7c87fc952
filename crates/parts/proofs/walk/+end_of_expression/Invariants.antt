use Rattle.std.proofs.Common.{◌-◌, length}
use Rattle.parts.proofs.walk.+end_of_expression.Given as goal

abbrev pub decreases-end_of_expression : goal.decreases-end_of_expression
decreases-end_of_expression l = length l.file.now - l.at
