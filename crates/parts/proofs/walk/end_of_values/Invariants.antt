use Rattle.std.proofs.Common.{◌≡◌, ◌+◌, ◌-◌, List, length}
use Rattle.commands.specs.Stands.{ExprsAt}
use Rattle.commands.specs.Trees.{Expr, exprs_size}
use Rattle.parts.proofs.Walking.{Ahead}
use Rattle.parts.proofs.walk.end_of_values.Given as goal

abbrev pub invariant-loop-i : goal.invariant-loop-i
invariant-loop-i l = (es : List Expr) → l.count ≡ length es → ExprsAt l.file l.at es → Ahead l.file (l.count - l._i) l.end (l.at + exprs_size es)
