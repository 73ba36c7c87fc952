use Rattle.std.proofs.Common.{refl, ap, ◌∙◌, sym, arith}
use Rattle.commands.specs.Statements.{command_size}
use Rattle.parts.proofs.Walking.{stmt_here, no_stmt}
use Rattle.offering.proofs.Walking.{silent_fits, send_fits, sent_stands, receive_fits, sequence_walk, first_walk, second_walk, guard_value, guard_walk, branch_value, branch_fits, loop_value, loop_fits, silent_does, send_does, receive_does, sequence_does, select_does, open_does, closed_does, branch_does, loop_does}
use Rattle.offering.proofs.walk.+put_fronts.Goals as goal

pub unreachable-requires : goal.unreachable-requires
unreachable-requires t c = no_stmt c.args.file.now c.args.at c.requires.0 c.in_default.ensures.exact c.requires.1.here

pub put_one-requires : goal.put_one-requires
put_one-requires t c = silent_fits _ _ _ _ c.in-Some.ensures.exact c.in-Skip.is c.requires

pub kinds_of_sent-kinds-requires : goal.kinds_of_sent-kinds-requires
kinds_of_sent-kinds-requires t c = sent_stands _ _ _ _ c.in-Some.ensures.exact c.in-Send.is c.requires

pub put_one-requires-in-Send : goal.put_one-requires-in-Send
put_one-requires-in-Send t c = send_fits _ _ _ _ c.in-Some.ensures.exact c.in-Send.is c.requires

pub put_one-requires-in-Recv : goal.put_one-requires-in-Recv
put_one-requires-in-Recv t c = receive_fits _ _ _ _ c.in-Some.ensures.exact c.in-Recv.is c.requires

pub put_fronts-requires : goal.put_fronts-requires
put_fronts-requires t c = (omega (arith, c.decreases, ap command_size c.in-Seq.is, c.in-Some.ensures.long), sequence_walk _ _ _ _ c.in-Some.ensures.exact c.in-Seq.is c.requires)

pub put_fronts-next-requires : goal.put_fronts-next-requires
put_fronts-next-requires t c = (omega (arith, c.decreases, ap command_size c.in-Sel.is, c.in-Some.ensures.long), first_walk _ _ _ _ c.in-Some.ensures.exact c.in-Sel.is c.requires)

pub put_fronts-requires-in-Sel : goal.put_fronts-requires-in-Sel
put_fronts-requires-in-Sel t c =
    let p = stmt_here c.args.file.now c.args.at c.requires.0 c.in-Sel.is c.in-Some.ensures.exact c.requires.1.here in
    (omega (arith, c.decreases, p.3, ap command_size c.in-Sel.is, c.in-Some.ensures.long), second_walk _ _ _ _ c.in-Some.ensures.exact _ _ _ _ c.in-Sel.is c.put_fronts-next.ensures c.requires)

pub evaluate-requires : goal.evaluate-requires
evaluate-requires t c = guard_value _ _ _ _ c.in-Some.ensures.exact c.in-Guard.is c.requires

pub put_fronts-requires-then-is_true : goal.put_fronts-requires-then-is_true
put_fronts-requires-then-is_true t c =
    let p = stmt_here c.args.file.now c.args.at c.requires.0 c.in-Guard.is c.in-Some.ensures.exact c.requires.1.here in
    (omega (arith, c.decreases, p.3, ap command_size c.in-Guard.is, c.in-Some.ensures.long), guard_walk _ _ _ _ c.in-Some.ensures.exact c.in-Guard.is c.requires)

pub most_fronts-requires : goal.most_fronts-requires
most_fronts-requires t c = let w = guard_walk _ _ _ _ c.in-Some.ensures.exact c.in-Guard.is c.requires in (w.0, w.1.here, omega (arith, w.1.few))

pub overflow_add-result : goal.overflow_add-result
overflow_add-result t c =
    let w = guard_walk _ _ _ _ c.in-Some.ensures.exact c.in-Guard.is c.requires in
    omega (arith, w.1.few, c.most_fronts.ensures w.0 w.1.here)

pub evaluate-requires-in-If : goal.evaluate-requires-in-If
evaluate-requires-in-If t c = branch_value _ _ _ _ c.in-Some.ensures.exact c.in-If.is c.requires

pub put_either-requires : goal.put_either-requires
put_either-requires t c = branch_fits _ _ _ _ c.in-Some.ensures.exact c.in-If.is c.requires

pub evaluate-requires-in-Do : goal.evaluate-requires-in-Do
evaluate-requires-in-Do t c = loop_value _ _ _ _ c.in-Some.ensures.exact c.in-Do.is c.requires

pub put_either-requires-in-Do : goal.put_either-requires-in-Do
put_either-requires-in-Do t c = loop_fits _ _ _ _ c.in-Some.ensures.exact c.in-Do.is c.requires

pub returns-in-Skip : goal.returns-in-Skip
returns-in-Skip t c = silent_does _ _ _ _ c.in-Some.ensures.exact _ _ _ _ c.in-Skip.is c.put_one.ensures.grown c.put_one.ensures.next

pub returns-in-Send : goal.returns-in-Send
returns-in-Send t c = send_does _ _ _ _ c.in-Some.ensures.exact _ _ _ _ c.in-Send.is c.kinds_of_sent-kinds.ensures c.put_one-in-Send.ensures.grown c.put_one-in-Send.ensures.next

pub returns-in-Recv : goal.returns-in-Recv
returns-in-Recv t c = receive_does _ _ _ _ c.in-Some.ensures.exact _ _ _ _ c.in-Recv.is (c.as_slice.ensures.items ∙ c.first-targets.ensures) c.kinds_of_targets-kinds.ensures c.put_one-in-Recv.ensures.grown c.put_one-in-Recv.ensures.next

pub returns-in-Seq : goal.returns-in-Seq
returns-in-Seq t c = sequence_does _ _ _ _ c.in-Some.ensures.exact _ _ _ _ c.in-Seq.is c.put_fronts.ensures

pub returns-in-Sel : goal.returns-in-Sel
returns-in-Sel t c = select_does _ _ _ _ c.in-Some.ensures.exact _ _ _ _ _ _ c.in-Sel.is c.put_fronts-next.ensures c.put_fronts-in-Sel.ensures

pub returns-then-is_true : goal.returns-then-is_true
returns-then-is_true t c = open_does _ _ _ _ c.in-Some.ensures.exact _ _ _ _ c.in-Guard.is c.evaluate.ensures (sym c.is_true.ensures ∙ c.if-is_true.true) c.put_fronts-then-is_true.ensures

pub returns-else-is_true : goal.returns-else-is_true
returns-else-is_true t c = closed_does _ _ _ _ c.in-Some.ensures.exact _ _ _ _ c.in-Guard.is c.evaluate.ensures (sym c.is_true.ensures ∙ c.if-is_true.false) refl c.most_fronts.ensures refl

pub returns-in-If : goal.returns-in-If
returns-in-If t c = branch_does _ _ _ _ c.in-Some.ensures.exact _ _ _ _ c.in-If.is c.evaluate-in-If.ensures c.put_either.ensures.grown c.put_either.ensures.next

pub returns-in-Do : goal.returns-in-Do
returns-in-Do t c = loop_does _ _ _ _ c.in-Some.ensures.exact _ _ _ _ c.in-Do.is c.evaluate-in-Do.ensures c.put_either-in-Do.ensures.grown c.put_either-in-Do.ensures.next
