use Rattle.std.proofs.Common.{ap, arith}
use Rattle.commands.specs.Expressions.{command_size}
use Rattle.commands.specs.Trees.{expr_size}
use Rattle.parts.proofs.Walking.{expr_here, no_expr}
use Rattle.parts.proofs.walk.+end_of_expression.Goals as goal

pub unreachable-requires : goal.unreachable-requires
unreachable-requires t c = no_expr c.args.file.now c.args.at c.requires.0 c.in_default.ensures.exact c.requires.1

pub end_of_expression-requires : goal.end_of_expression-requires
end_of_expression-requires t c =
    let p = expr_here c.args.file.now c.args.at c.requires.0 c.in-Binary.is c.in-Some.ensures.exact c.requires.1 in
    (omega (arith, c.decreases, p.3, ap command_size c.in-Binary.is, c.in-Some.ensures.long), (p.1, p.5))

pub end_of_expression-requires-in-Not : goal.end_of_expression-requires-in-Not
end_of_expression-requires-in-Not t c =
    let p = expr_here c.args.file.now c.args.at c.requires.0 c.in-Not.is c.in-Some.ensures.exact c.requires.1 in
    (omega (arith, c.decreases, ap command_size c.in-Not.is, c.in-Some.ensures.long), (p.0, p.2))

pub returns-in-Leaf : goal.returns-in-Leaf
returns-in-Leaf t c e s =
    omega (arith, c.size.ensures, ap expr_size (expr_here c.args.file.now c.args.at e c.in-Leaf.is c.in-Some.ensures.exact s))

pub returns-in-Binary : goal.returns-in-Binary
returns-in-Binary t c e s =
    let p = expr_here c.args.file.now c.args.at e c.in-Binary.is c.in-Some.ensures.exact s in
    omega (arith, c.end_of_expression.ensures p.1 p.5, ap expr_size p.2, p.3)

pub returns-in-Not : goal.returns-in-Not
returns-in-Not t c e s =
    let p = expr_here c.args.file.now c.args.at e c.in-Not.is c.in-Some.ensures.exact s in
    omega (arith, c.end_of_expression-in-Not.ensures p.0 p.2, ap expr_size p.1)
