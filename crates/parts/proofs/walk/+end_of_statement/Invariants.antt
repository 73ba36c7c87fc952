use Rattle.std.proofs.Common.{◌-◌, length}
use Rattle.parts.proofs.walk.+end_of_statement.Given as goal

abbrev pub decreases-end_of_statement : goal.decreases-end_of_statement
decreases-end_of_statement l = length l.file.now - l.at
