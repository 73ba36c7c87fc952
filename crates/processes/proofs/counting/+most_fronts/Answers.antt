use Rattle.std.proofs.Common.{ap, inl, inr, arith}
use Rattle.commands.specs.Statements.{command_size}
use Rattle.admission.specs.Conditions.{most_fronts}
use Rattle.parts.proofs.Walking.{stmt_here, no_stmt}
use Rattle.processes.proofs.counting.+most_fronts.Goals as goal

pub unreachable-requires : goal.unreachable-requires
unreachable-requires t c = no_stmt c.args.file.now c.args.at c.requires.0 c.in_default.ensures.exact c.requires.1

pub most_fronts-requires : goal.most_fronts-requires
most_fronts-requires t c =
    let p = stmt_here c.args.file.now c.args.at c.requires.0 c.in-Seq.is c.in-Some.ensures.exact c.requires.1 in
    (omega (arith, c.decreases, ap command_size c.in-Seq.is, c.in-Some.ensures.long), (p.0, p.4, omega (arith, c.requires.2, ap most_fronts p.2)))

pub most_fronts-first-requires : goal.most_fronts-first-requires
most_fronts-first-requires t c =
    let p = stmt_here c.args.file.now c.args.at c.requires.0 c.in-Sel.is c.in-Some.ensures.exact c.requires.1 in
    (omega (arith, c.decreases, ap command_size c.in-Sel.is, c.in-Some.ensures.long), (p.0, p.4, omega (arith, c.requires.2, ap most_fronts p.2)))

pub most_fronts-other-requires : goal.most_fronts-other-requires
most_fronts-other-requires t c =
    let p = stmt_here c.args.file.now c.args.at c.requires.0 c.in-Sel.is c.in-Some.ensures.exact c.requires.1 in
    (omega (arith, c.decreases, p.3, ap command_size c.in-Sel.is, c.in-Some.ensures.long), (p.1, p.5, omega (arith, c.requires.2, ap most_fronts p.2)))

pub most_fronts-requires-in-Guard : goal.most_fronts-requires-in-Guard
most_fronts-requires-in-Guard t c =
    let p = stmt_here c.args.file.now c.args.at c.requires.0 c.in-Guard.is c.in-Some.ensures.exact c.requires.1 in
    (omega (arith, c.decreases, p.3, ap command_size c.in-Guard.is, c.in-Some.ensures.long), (p.1, p.5, omega (arith, c.requires.2, ap most_fronts p.2)))

pub returns-in-Skip : goal.returns-in-Skip
returns-in-Skip t c u s =
    let f = c.args.file.now in
    let at = c.args.at in
    let read = c.in-Some.ensures.exact in
    elim c.in-Skip.is [
      | inl e ↦ omega (arith, ap most_fronts (stmt_here f at u e read s))
      | inr r ↦ elim r [
        | inl e ↦ omega (arith, ap most_fronts (stmt_here f at u e.1 read s).1)
        | inr q ↦ elim q [
          | inl e ↦ omega (arith, ap most_fronts (stmt_here f at u e.3 read s).1)
          | inr e ↦ omega (arith, ap most_fronts (stmt_here f at u e.4 read s).1)
        ]
      ]
    ]

pub returns-in-Seq : goal.returns-in-Seq
returns-in-Seq t c u s =
    let p = stmt_here c.args.file.now c.args.at u c.in-Seq.is c.in-Some.ensures.exact s in
    omega (arith, c.most_fronts.ensures p.0 p.4, ap most_fronts p.2)

pub returns-in-Sel : goal.returns-in-Sel
returns-in-Sel t c u s =
    let p = stmt_here c.args.file.now c.args.at u c.in-Sel.is c.in-Some.ensures.exact s in
    omega (arith, c.most_fronts-first.ensures p.0 p.4, c.most_fronts-other.ensures p.1 p.5, ap most_fronts p.2)

pub returns-in-Guard : goal.returns-in-Guard
returns-in-Guard t c u s =
    let p = stmt_here c.args.file.now c.args.at u c.in-Guard.is c.in-Some.ensures.exact s in
    omega (arith, c.most_fronts-in-Guard.ensures p.1 p.5, ap most_fronts p.2)

pub returns-in-If : goal.returns-in-If
returns-in-If t c u s =
    let f = c.args.file.now in
    let at = c.args.at in
    let read = c.in-Some.ensures.exact in
    elim c.in-If.is [
      | inl e ↦ omega (arith, ap most_fronts (stmt_here f at u e.2 read s).3)
      | inr e ↦ omega (arith, ap most_fronts (stmt_here f at u e.1 read s).2)
    ]

pub overflow_add-result : goal.overflow_add-result
overflow_add-result t c =
    let p = stmt_here c.args.file.now c.args.at c.requires.0 c.in-Sel.is c.in-Some.ensures.exact c.requires.1 in
    omega (arith, c.most_fronts-first.ensures p.0 p.4, c.most_fronts-other.ensures p.1 p.5, ap most_fronts p.2, c.requires.2)
