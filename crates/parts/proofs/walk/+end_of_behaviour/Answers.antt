use Rattle.std.proofs.Common.{ap, arith}
use Rattle.commands.specs.Behaviours.{command_size}
use Rattle.commands.specs.Trees.{behaviour_size}
use Rattle.parts.proofs.Walking.{behaviour_here, no_behaviour}
use Rattle.parts.proofs.walk.+end_of_behaviour.Goals as goal

pub unreachable-requires : goal.unreachable-requires
unreachable-requires t c = no_behaviour c.args.file.now c.args.at c.requires.0 c.in_default.ensures.exact c.requires.1

pub end_of_behaviour-requires : goal.end_of_behaviour-requires
end_of_behaviour-requires t c =
    let p = behaviour_here c.args.file.now c.args.at c.requires.0 c.in-Par.is c.in-Some.ensures.exact c.requires.1 in
    (omega (arith, c.decreases, p.3, ap command_size c.in-Par.is, c.in-Some.ensures.long), (p.1, p.5))

pub end_of_behaviour-requires-in-Hide : goal.end_of_behaviour-requires-in-Hide
end_of_behaviour-requires-in-Hide t c =
    let p = behaviour_here c.args.file.now c.args.at c.requires.0 c.in-Hide.is c.in-Some.ensures.exact c.requires.1 in
    (omega (arith, c.decreases, ap command_size c.in-Hide.is, c.in-Some.ensures.long), (p.0, p.2))

pub end_of_behaviour-requires-in-Rename : goal.end_of_behaviour-requires-in-Rename
end_of_behaviour-requires-in-Rename t c =
    let p = behaviour_here c.args.file.now c.args.at c.requires.0 c.in-Rename.is c.in-Some.ensures.exact c.requires.1 in
    (omega (arith, c.decreases, ap command_size c.in-Rename.is, c.in-Some.ensures.long), (p.0, p.2))

pub returns-in-Proc : goal.returns-in-Proc
returns-in-Proc t c u s =
    omega (arith, ap behaviour_size (behaviour_here c.args.file.now c.args.at u c.in-Proc.is c.in-Some.ensures.exact s))

pub returns-in-Par : goal.returns-in-Par
returns-in-Par t c u s =
    let p = behaviour_here c.args.file.now c.args.at u c.in-Par.is c.in-Some.ensures.exact s in
    omega (arith, c.end_of_behaviour.ensures p.1 p.5, ap behaviour_size p.2, p.3)

pub returns-in-Hide : goal.returns-in-Hide
returns-in-Hide t c u s =
    let p = behaviour_here c.args.file.now c.args.at u c.in-Hide.is c.in-Some.ensures.exact s in
    omega (arith, c.end_of_behaviour-in-Hide.ensures p.0 p.2, ap behaviour_size p.1)

pub returns-in-Rename : goal.returns-in-Rename
returns-in-Rename t c u s =
    let p = behaviour_here c.args.file.now c.args.at u c.in-Rename.is c.in-Some.ensures.exact s in
    omega (arith, c.end_of_behaviour-in-Rename.ensures p.0 p.2, ap behaviour_size p.1)
