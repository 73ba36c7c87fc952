use Rattle.std.proofs.Common.{arith}
use Rattle.classes.proofs.head.statement_of.Goals as goal

pub statement_at-requires : goal.statement_at-requires
statement_at-requires c = omega (arith, (c.class_at.ensures c.requires.0 c.requires.1).within)

pub overflow_cast-result : goal.overflow_cast-result
overflow_cast-result c = let b = c.class_at.ensures c.requires.0 c.requires.1 in omega (arith, b.within, b.short, c.statement_at.ensures)
