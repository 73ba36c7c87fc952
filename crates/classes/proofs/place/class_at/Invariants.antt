use Rattle.std.proofs.Common.{◌-◌}
use Rattle.commands.specs.Trees.{Class}
use Rattle.classes.specs.Classes.{ClassOf}
use Rattle.classes.proofs.Walking.{Ahead}
use Rattle.classes.proofs.place.class_at.Given as goal

abbrev pub invariant-loop-i : goal.invariant-loop-i
invariant-loop-i l = (c : Class) → ClassOf l.file l.class c → Ahead l.file l.at (l.class - l._i) c
