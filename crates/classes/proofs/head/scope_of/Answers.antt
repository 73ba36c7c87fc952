use Rattle.std.proofs.Common.{arith}
use Rattle.classes.proofs.Heading.{begins_scoped}
use Rattle.classes.proofs.head.scope_of.Goals as goal

pub scope_at-requires : goal.scope_at-requires
scope_at-requires c = omega (arith, (c.class_at.ensures c.requires.0 c.requires.1).within)

pub returns : goal.returns
returns c d h = begins_scoped _ _ d _ c.scope_at.ensures (c.class_at.ensures d h)
