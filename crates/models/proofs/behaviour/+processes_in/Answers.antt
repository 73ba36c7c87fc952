use Rattle.std.proofs.Common.{ap, arith}
use Rattle.commands.specs.Behaviours.{command_size}
use Rattle.admission.specs.Conditions.{processes}
use Rattle.parts.proofs.Walking.{behaviour_here, no_behaviour}
use Rattle.models.proofs.behaviour.+processes_in.Goals as goal

pub unreachable-requires : goal.unreachable-requires
unreachable-requires t c = no_behaviour c.args.file.now c.args.at c.requires.0 c.in_default.ensures.exact c.requires.1

pub processes_in-first-requires : goal.processes_in-first-requires
processes_in-first-requires t c =
    let p = behaviour_here c.args.file.now c.args.at c.requires.0 c.in-Par.is c.in-Some.ensures.exact c.requires.1 in
    (omega (arith, c.decreases, ap command_size c.in-Par.is, c.in-Some.ensures.long), (p.0, p.4, omega (arith, c.requires.2, ap processes p.2)))

pub processes_in-other-requires : goal.processes_in-other-requires
processes_in-other-requires t c =
    let p = behaviour_here c.args.file.now c.args.at c.requires.0 c.in-Par.is c.in-Some.ensures.exact c.requires.1 in
    (omega (arith, c.decreases, p.3, ap command_size c.in-Par.is, c.in-Some.ensures.long), (p.1, p.5, omega (arith, c.requires.2, ap processes p.2)))

pub processes_in-requires : goal.processes_in-requires
processes_in-requires t c =
    let p = behaviour_here c.args.file.now c.args.at c.requires.0 c.in-Hide.is c.in-Some.ensures.exact c.requires.1 in
    (omega (arith, c.decreases, ap command_size c.in-Hide.is, c.in-Some.ensures.long), (p.0, p.2, omega (arith, c.requires.2, ap processes p.1)))

pub processes_in-requires-in-Rename : goal.processes_in-requires-in-Rename
processes_in-requires-in-Rename t c =
    let p = behaviour_here c.args.file.now c.args.at c.requires.0 c.in-Rename.is c.in-Some.ensures.exact c.requires.1 in
    (omega (arith, c.decreases, ap command_size c.in-Rename.is, c.in-Some.ensures.long), (p.0, p.2, omega (arith, c.requires.2, ap processes p.1)))

pub overflow_add-result : goal.overflow_add-result
overflow_add-result t c =
    let p = behaviour_here c.args.file.now c.args.at c.requires.0 c.in-Par.is c.in-Some.ensures.exact c.requires.1 in
    omega (arith, c.processes_in-first.ensures p.0 p.4, c.processes_in-other.ensures p.1 p.5, ap processes p.2, c.requires.2)

pub returns-in-Proc : goal.returns-in-Proc
returns-in-Proc t c u s =
    let p = behaviour_here c.args.file.now c.args.at u c.in-Proc.is c.in-Some.ensures.exact s in
    omega (arith, ap processes p)

pub returns-in-Par : goal.returns-in-Par
returns-in-Par t c u s =
    let p = behaviour_here c.args.file.now c.args.at u c.in-Par.is c.in-Some.ensures.exact s in
    omega (arith, c.processes_in-first.ensures p.0 p.4, c.processes_in-other.ensures p.1 p.5, ap processes p.2)

pub returns-in-Hide : goal.returns-in-Hide
returns-in-Hide t c u s =
    let p = behaviour_here c.args.file.now c.args.at u c.in-Hide.is c.in-Some.ensures.exact s in
    omega (arith, c.processes_in.ensures p.0 p.2, ap processes p.1)

pub returns-in-Rename : goal.returns-in-Rename
returns-in-Rename t c u s =
    let p = behaviour_here c.args.file.now c.args.at u c.in-Rename.is c.in-Some.ensures.exact s in
    omega (arith, c.processes_in-in-Rename.ensures p.0 p.2, ap processes p.1)
