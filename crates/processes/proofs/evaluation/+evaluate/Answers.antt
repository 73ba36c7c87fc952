use Rattle.std.proofs.Common.{ap, ◌∙◌, arith}
use Rattle.commands.specs.Expressions.{command_size}
use Rattle.parts.proofs.Walking.{expr_here, no_expr}
use Rattle.processes.proofs.evaluation.+evaluate.Goals as goal

pub unreachable-requires : goal.unreachable-requires
unreachable-requires t c = no_expr c.args.file.now c.args.at c.requires.0 c.in_default.ensures.exact c.requires.1

pub evaluate-first-requires : goal.evaluate-first-requires
evaluate-first-requires t c =
    let p = expr_here c.args.file.now c.args.at c.requires.0 c.in-Binary.is c.in-Some.ensures.exact c.requires.1 in
    (omega (arith, c.decreases, ap command_size c.in-Binary.is, c.in-Some.ensures.long), (p.0, p.4))

pub evaluate-second-requires : goal.evaluate-second-requires
evaluate-second-requires t c =
    let p = expr_here c.args.file.now c.args.at c.requires.0 c.in-Binary.is c.in-Some.ensures.exact c.requires.1 in
    (omega (arith, c.decreases, p.3, ap command_size c.in-Binary.is, c.in-Some.ensures.long), (p.1, p.5))

pub evaluate-requires : goal.evaluate-requires
evaluate-requires t c =
    let p = expr_here c.args.file.now c.args.at c.requires.0 c.in-Not.is c.in-Some.ensures.exact c.requires.1 in
    (omega (arith, c.decreases, ap command_size c.in-Not.is, c.in-Some.ensures.long), (p.0, p.2))

pub returns-in-Leaf : goal.returns-in-Leaf
returns-in-Leaf t c e s =
    let is = expr_here c.args.file.now c.args.at e c.in-Leaf.is c.in-Some.ensures.exact s in
    rw is c.leaf_value.ensures

pub returns-in-Binary : goal.returns-in-Binary
returns-in-Binary t c e s =
    let p = expr_here c.args.file.now c.args.at e c.in-Binary.is c.in-Some.ensures.exact s in
    let a = c.evaluate-first.ensures p.0 p.4 in
    let b = c.evaluate-second.ensures p.1 p.5 in
    rw p.2 (c.apply.ensures.exact ∙ rw (a, b))

pub returns-in-Not : goal.returns-in-Not
returns-in-Not t c e s =
    let p = expr_here c.args.file.now c.args.at e c.in-Not.is c.in-Some.ensures.exact s in
    let a = c.evaluate.ensures p.0 p.2 in
    rw p.1 (c.negated.ensures ∙ rw a)
