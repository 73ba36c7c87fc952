use Rattle.std.proofs.Common.{◌≡◌, List, map, length}
use Rattle.values.specs.Values.{kind_of}
use Rattle.commands.specs.Stands.{ExprsAt}
use Rattle.commands.specs.Trees.{Expr}
use Rattle.processes.specs.Evaluation.{eval, values_of}
use Rattle.offering.proofs.Placing.{Placing}
use Rattle.offering.proofs.sending.kinds_of_sent.Given as goal

abbrev pub invariant-loop-i : goal.invariant-loop-i
invariant-loop-i l = (es : List Expr) → l.count ≡ length es → ExprsAt l.file l.at es → Placing l.file (λ e. kind_of (eval e (values_of l.rows))) l.count l.i l.place l.kinds (map (λ e. kind_of (eval e (values_of l.rows))) es)
