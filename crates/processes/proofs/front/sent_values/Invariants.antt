use Rattle.std.proofs.Common.{◌≡◌, ◌-◌, List, map, length}
use Rattle.values.specs.Few.{listed}
use Rattle.commands.specs.Stands.{ExprsAt}
use Rattle.commands.specs.Trees.{Expr}
use Rattle.processes.specs.Evaluation.{eval, values_of}
use Rattle.processes.specs.Found.{values_in}
use Rattle.processes.proofs.Sending.{Sending}
use Rattle.processes.proofs.front.sent_values.Given as goal

abbrev pub invariant-loop-i : goal.invariant-loop-i
invariant-loop-i l =
    (length (listed l.sent) ≡ l._i)
    × ((es : List Expr) → l.count ≡ length es → ExprsAt l.file l.at es → Sending l.file (λ e. eval e (values_of l.variables)) (l.count - l._i) l.place (values_in l.sent) (map (λ e. eval e (values_of l.variables)) es))
