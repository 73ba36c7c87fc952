use Rattle.std.proofs.Common.{sym, ap, ◌∙◌}
use Rattle.parts.proofs.Walking.{expr_here, no_expr}
use Rattle.values.specs.Values.{kind_of}
use Rattle.processes.specs.Evaluation.{eval, values_of}
use Rattle.processes.proofs.Kept.{given}
use Rattle.offering.proofs.sending.kind_of_expression.Goals as goal

pub unreachable-requires : goal.unreachable-requires
unreachable-requires c = no_expr c.args.file.now c.args.at c.requires.0 c.in_default.ensures.exact c.requires.1

pub returns-in-Leaf : goal.returns-in-Leaf
returns-in-Leaf c e h =
    let p = expr_here c.args.file.now c.args.at e c.in-Leaf.is c.in-Some.ensures.exact h in
    c.kind_of_leaf.ensures ∙ ap (λ u. kind_of (eval u (values_of c.args.rows.now))) (sym p)

pub returns-in-Binary : goal.returns-in-Binary
returns-in-Binary c e h =
    let p = expr_here c.args.file.now c.args.at e c.in-Binary.is c.in-Some.ensures.exact h in
    c.gives.ensures ∙ sym (given c.in-Binary.op _ _) ∙ ap (λ u. kind_of (eval u (values_of c.args.rows.now))) (sym p.2)

pub returns-in-Not : goal.returns-in-Not
returns-in-Not c e h =
    let p = expr_here c.args.file.now c.args.at e c.in-Not.is c.in-Some.ensures.exact h in
    ap (λ u. kind_of (eval u (values_of c.args.rows.now))) (sym p.1)
