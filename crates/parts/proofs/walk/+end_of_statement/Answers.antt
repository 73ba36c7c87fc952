use Rattle.std.proofs.Common.{ap, ◌∙◌, arith}
use Rattle.commands.specs.Trees.{stmt_size}
use Rattle.parts.proofs.Walking.{stmt_here, no_stmt, last_part}
use Rattle.parts.proofs.walk.+end_of_statement.Goals as goal

pub unreachable-requires : goal.unreachable-requires
unreachable-requires t c = no_stmt c.args.file.now c.args.at c.requires.0 c.in_default.ensures.exact c.requires.1

pub end_of_expression-requires : goal.end_of_expression-requires
end_of_expression-requires t c =
    let p = stmt_here c.args.file.now c.args.at c.requires.0 c.in-Set.is c.in-Some.ensures.exact c.requires.1 in
    (p.0, p.2)

pub end_of_values-requires : goal.end_of_values-requires
end_of_values-requires t c =
    let p = stmt_here c.args.file.now c.args.at c.requires.0 c.in-Send.is c.in-Some.ensures.exact c.requires.1 in
    (p.0, p.2, p.3)

pub end_of_statement-requires : goal.end_of_statement-requires
end_of_statement-requires t c =
    let p = last_part c.args.file.now c.args.at c.requires.0 c.in-Seq.is c.in-Some.ensures.exact c.requires.1 in
    (omega (arith, c.decreases, c.in-Some.ensures.some, c.in-Some.ensures.long), (p.part, p.stands))

pub returns-in-Skip : goal.returns-in-Skip
returns-in-Skip t c u s =
    omega (arith, ap stmt_size (stmt_here c.args.file.now c.args.at u c.in-Skip.is c.in-Some.ensures.exact s))

pub returns-in-Set : goal.returns-in-Set
returns-in-Set t c u s =
    let p = stmt_here c.args.file.now c.args.at u c.in-Set.is c.in-Some.ensures.exact s in
    omega (arith, c.end_of_expression.ensures p.0 p.2, ap stmt_size p.1)

pub returns-in-Send : goal.returns-in-Send
returns-in-Send t c u s =
    let p = stmt_here c.args.file.now c.args.at u c.in-Send.is c.in-Some.ensures.exact s in
    omega (arith, c.end_of_values.ensures p.0 p.2 p.3, ap stmt_size p.1)

pub returns-in-Recv : goal.returns-in-Recv
returns-in-Recv t c u s =
    let p = stmt_here c.args.file.now c.args.at u c.in-Recv.is c.in-Some.ensures.exact s in
    omega (arith, ap stmt_size p.1)

pub returns-in-Seq : goal.returns-in-Seq
returns-in-Seq t c u s =
    let p = last_part c.args.file.now c.args.at u c.in-Seq.is c.in-Some.ensures.exact s in
    c.end_of_statement.ensures p.part p.stands ∙ p.ends
