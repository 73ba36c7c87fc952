use Rattle.std.proofs.Common.{ap, arith}
use Rattle.commands.specs.Behaviours.{command_size}
use Rattle.admission.specs.Conditions.{processes}
use Rattle.parts.proofs.Walking.{behaviour_here, no_behaviour}
use Rattle.arrivals.proofs.Below.{first_kept, second_kept, hide_kept, rename_kept, turned_kept}
use Rattle.arrivals.proofs.Filled.{filled_process, filled_parallel, before_parallel, filled_hide, filled_rename, before_past, filled_as}
use Rattle.arrivals.proofs.filling.+walk.Goals as goal

pub unreachable-requires : goal.unreachable-requires
unreachable-requires t c = no_behaviour c.args.file.now c.args.at c.requires.1 c.in_default.ensures.exact c.requires.2.here

-- PROC
pub write_own-requires : goal.write_own-requires
write_own-requires t c =
    let p = behaviour_here c.args.file.now c.args.at c.requires.1 c.in-Proc.is c.in-Some.ensures.exact c.requires.2.here in
    omega (arith, c.requires.3, ap processes p)

pub write_none-requires : goal.write_none-requires
write_none-requires t c =
    let p = behaviour_here c.args.file.now c.args.at c.requires.1 c.in-Proc.is c.in-Some.ensures.exact c.requires.2.here in
    omega (arith, c.requires.3, ap processes p)

pub returns-in-Proc-clause-end : goal.returns-in-Proc-clause-end
returns-in-Proc-clause-end t c u s =
    let p = behaviour_here c.args.file.now c.args.at u c.in-Proc.is c.in-Some.ensures.exact s in
    omega (arith, ap processes p)

pub returns-in-Proc-clause-filled : goal.returns-in-Proc-clause-filled
returns-in-Proc-clause-filled t c u s =
    let r = behaviour_here c.args.file.now c.args.at c.requires.1 c.in-Proc.is c.in-Some.ensures.exact c.requires.2.here in
    let p = behaviour_here c.args.file.now c.args.at u c.in-Proc.is c.in-Some.ensures.exact s in
    filled_as _ _ _ _ p (filled_process _ _ _ _ _ (omega (arith, c.requires.3, ap processes r)) c.write_own.ensures c.write_none.ensures)

-- PAR
pub walk-middle-requires : goal.walk-middle-requires
walk-middle-requires t c =
    let p = behaviour_here c.args.file.now c.args.at c.requires.1 c.in-Par.is c.in-Some.ensures.exact c.requires.2.here in
    (omega (arith, c.decreases, ap command_size c.in-Par.is, c.in-Some.ensures.long), (c.requires.0, p.0, first_kept _ _ _ _ _ _ p.2 p.4 c.requires.2, omega (arith, c.requires.3, ap processes p.2)))

pub walk-end-requires : goal.walk-end-requires
walk-end-requires t c =
    let p = behaviour_here c.args.file.now c.args.at c.requires.1 c.in-Par.is c.in-Some.ensures.exact c.requires.2.here in
    (omega (arith, c.decreases, p.3, ap command_size c.in-Par.is, c.in-Some.ensures.long), (c.requires.0, p.1, second_kept _ _ _ _ _ _ _ p.2 p.5 c.requires.2, omega (arith, c.requires.3, ap processes p.2, c.walk-middle.ensures.end p.0 p.4)))

pub meet-requires-clause-first_part : goal.meet-requires-clause-first_part
meet-requires-clause-first_part t c =
    let p = behaviour_here c.args.file.now c.args.at c.requires.1 c.in-Par.is c.in-Some.ensures.exact c.requires.2.here in
    omega (arith, c.walk-middle.ensures.end p.0 p.4)

pub meet-requires-clause-second_part : goal.meet-requires-clause-second_part
meet-requires-clause-second_part t c =
    let p = behaviour_here c.args.file.now c.args.at c.requires.1 c.in-Par.is c.in-Some.ensures.exact c.requires.2.here in
    omega (arith, c.walk-end.ensures.end p.1 p.5)

pub meet-requires-clause-within : goal.meet-requires-clause-within
meet-requires-clause-within t c =
    let p = behaviour_here c.args.file.now c.args.at c.requires.1 c.in-Par.is c.in-Some.ensures.exact c.requires.2.here in
    omega (arith, c.requires.3, ap processes p.2, c.walk-middle.ensures.end p.0 p.4, c.walk-end.ensures.end p.1 p.5)

pub returns-in-Par-clause-end : goal.returns-in-Par-clause-end
returns-in-Par-clause-end t c u s =
    let p = behaviour_here c.args.file.now c.args.at u c.in-Par.is c.in-Some.ensures.exact s in
    omega (arith, ap processes p.2, c.walk-middle.ensures.end p.0 p.4, c.walk-end.ensures.end p.1 p.5)

pub returns-in-Par-clause-filled : goal.returns-in-Par-clause-filled
returns-in-Par-clause-filled t c u s =
    let r = behaviour_here c.args.file.now c.args.at c.requires.1 c.in-Par.is c.in-Some.ensures.exact c.requires.2.here in
    let p = behaviour_here c.args.file.now c.args.at u c.in-Par.is c.in-Some.ensures.exact s in
    filled_as _ _ _ _ p.2
    (filled_parallel _ _ _ p.0 p.1 _ _ _ (c.walk-middle.ensures.end p.0 p.4) (c.walk-end.ensures.end p.1 p.5)
    (omega (arith, c.requires.3, ap processes r.2, c.walk-middle.ensures.end r.0 r.4, c.walk-end.ensures.end r.1 r.5))
    (c.walk-middle.ensures.filled p.0 p.4)
    c.walk-end.ensures.before
    (c.walk-end.ensures.filled p.1 p.5)
    c.meet.ensures)

pub returns-in-Par-clause-before : goal.returns-in-Par-clause-before
returns-in-Par-clause-before t c =
    let p = behaviour_here c.args.file.now c.args.at c.requires.1 c.in-Par.is c.in-Some.ensures.exact c.requires.2.here in
    before_parallel _ _ _ p.0 p.1 _ _ _ _ (omega (arith, c.walk-middle.ensures.end p.0 p.4)) c.walk-middle.ensures.before c.walk-end.ensures.before c.meet.ensures

-- HIDE
pub walk-end-requires-in-Hide : goal.walk-end-requires-in-Hide
walk-end-requires-in-Hide t c =
    let p = behaviour_here c.args.file.now c.args.at c.requires.1 c.in-Hide.is c.in-Some.ensures.exact c.requires.2.here in
    (omega (arith, c.decreases, ap command_size c.in-Hide.is, c.in-Some.ensures.long), (c.requires.0, p.0, hide_kept _ _ _ _ _ _ p.1 p.2 c.requires.2, omega (arith, c.requires.3, ap processes p.1)))

pub pass_rows-requires-clause-ordered : goal.pass_rows-requires-clause-ordered
pass_rows-requires-clause-ordered t c =
    let p = behaviour_here c.args.file.now c.args.at c.requires.1 c.in-Hide.is c.in-Some.ensures.exact c.requires.2.here in
    omega (arith, c.walk-end-in-Hide.ensures.end p.0 p.2)

pub pass_rows-requires-clause-within : goal.pass_rows-requires-clause-within
pass_rows-requires-clause-within t c =
    let p = behaviour_here c.args.file.now c.args.at c.requires.1 c.in-Hide.is c.in-Some.ensures.exact c.requires.2.here in
    omega (arith, c.requires.3, ap processes p.1, c.walk-end-in-Hide.ensures.end p.0 p.2)

pub returns-in-Hide-clause-end : goal.returns-in-Hide-clause-end
returns-in-Hide-clause-end t c u s =
    let p = behaviour_here c.args.file.now c.args.at u c.in-Hide.is c.in-Some.ensures.exact s in
    omega (arith, ap processes p.1, c.walk-end-in-Hide.ensures.end p.0 p.2)

pub returns-in-Hide-clause-filled : goal.returns-in-Hide-clause-filled
returns-in-Hide-clause-filled t c u s =
    let r = behaviour_here c.args.file.now c.args.at c.requires.1 c.in-Hide.is c.in-Some.ensures.exact c.requires.2.here in
    let p = behaviour_here c.args.file.now c.args.at u c.in-Hide.is c.in-Some.ensures.exact s in
    filled_as _ _ _ _ p.1
    (filled_hide _ _ p.0 _ _ (c.walk-end-in-Hide.ensures.end p.0 p.2)
    (omega (arith, c.requires.3, ap processes r.1, c.walk-end-in-Hide.ensures.end r.0 r.2))
    (c.walk-end-in-Hide.ensures.filled p.0 p.2)
    _ c.pass_rows.ensures)

pub returns-in-Hide-clause-before : goal.returns-in-Hide-clause-before
returns-in-Hide-clause-before t c =
    let p = behaviour_here c.args.file.now c.args.at c.requires.1 c.in-Hide.is c.in-Some.ensures.exact c.requires.2.here in
    before_past _ _ _ _ _ _ (omega (arith, c.walk-end-in-Hide.ensures.end p.0 p.2)) (omega (arith, c.requires.3, ap processes p.1, c.walk-end-in-Hide.ensures.end p.0 p.2)) c.walk-end-in-Hide.ensures.before c.pass_rows.ensures

-- RENAME
pub walk-end-requires-in-Rename : goal.walk-end-requires-in-Rename
walk-end-requires-in-Rename t c =
    let p = behaviour_here c.args.file.now c.args.at c.requires.1 c.in-Rename.is c.in-Some.ensures.exact c.requires.2.here in
    (omega (arith, c.decreases, ap command_size c.in-Rename.is, c.in-Some.ensures.long), (c.requires.0, p.0, rename_kept _ _ _ _ _ _ _ p.1 p.2 c.requires.2, omega (arith, c.requires.3, ap processes p.1)))

pub pass_rows-requires-in-Rename-clause-ordered : goal.pass_rows-requires-in-Rename-clause-ordered
pass_rows-requires-in-Rename-clause-ordered t c =
    let p = behaviour_here c.args.file.now c.args.at c.requires.1 c.in-Rename.is c.in-Some.ensures.exact c.requires.2.here in
    omega (arith, c.walk-end-in-Rename.ensures.end p.0 p.2)

pub pass_rows-requires-in-Rename-clause-within : goal.pass_rows-requires-in-Rename-clause-within
pass_rows-requires-in-Rename-clause-within t c =
    let p = behaviour_here c.args.file.now c.args.at c.requires.1 c.in-Rename.is c.in-Some.ensures.exact c.requires.2.here in
    omega (arith, c.requires.3, ap processes p.1, c.walk-end-in-Rename.ensures.end p.0 p.2)

pub pass_rows-requires-in-Rename-clause-bytes : goal.pass_rows-requires-in-Rename-clause-bytes
pass_rows-requires-in-Rename-clause-bytes t c =
    let p = behaviour_here c.args.file.now c.args.at c.requires.1 c.in-Rename.is c.in-Some.ensures.exact c.requires.2.here in
    turned_kept _ _ _ _ _ _ p.0 p.1 c.requires.2

pub returns-in-Rename-clause-end : goal.returns-in-Rename-clause-end
returns-in-Rename-clause-end t c u s =
    let p = behaviour_here c.args.file.now c.args.at u c.in-Rename.is c.in-Some.ensures.exact s in
    omega (arith, ap processes p.1, c.walk-end-in-Rename.ensures.end p.0 p.2)

pub returns-in-Rename-clause-filled : goal.returns-in-Rename-clause-filled
returns-in-Rename-clause-filled t c u s =
    let r = behaviour_here c.args.file.now c.args.at c.requires.1 c.in-Rename.is c.in-Some.ensures.exact c.requires.2.here in
    let p = behaviour_here c.args.file.now c.args.at u c.in-Rename.is c.in-Some.ensures.exact s in
    filled_as _ _ _ _ p.1
    (filled_rename _ _ p.0 _ _ (c.walk-end-in-Rename.ensures.end p.0 p.2)
    (omega (arith, c.requires.3, ap processes r.1, c.walk-end-in-Rename.ensures.end r.0 r.2))
    (c.walk-end-in-Rename.ensures.filled p.0 p.2)
    _ _ c.pass_rows-in-Rename.ensures)

pub returns-in-Rename-clause-before : goal.returns-in-Rename-clause-before
returns-in-Rename-clause-before t c =
    let p = behaviour_here c.args.file.now c.args.at c.requires.1 c.in-Rename.is c.in-Some.ensures.exact c.requires.2.here in
    before_past _ _ _ _ _ _ (omega (arith, c.walk-end-in-Rename.ensures.end p.0 p.2)) (omega (arith, c.requires.3, ap processes p.1, c.walk-end-in-Rename.ensures.end p.0 p.2)) c.walk-end-in-Rename.ensures.before c.pass_rows-in-Rename.ensures
