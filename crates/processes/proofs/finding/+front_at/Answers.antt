use Rattle.std.proofs.Common.{◌+◌, ◌∷◌, length, sym, refl, ap, ◌∙◌, subst, arith}
use Rattle.values.specs.Values.{meaning}
use Rattle.commands.specs.Statements.{command_size}
use Rattle.commands.specs.Trees.{skip, sequence, guard, branch, loop}
use Rattle.admission.specs.Conditions.{most_fronts}
use Rattle.parts.proofs.Walking.{stmt_here, no_stmt}
use Rattle.processes.specs.Fronts.{is_true}
use Rattle.processes.specs.Found.{Ready}
use Rattle.processes.proofs.Kept.{few_fronts, some_deep}
use Rattle.processes.proofs.Statements.{received, has_room, sequence_ready, first_ready, second_ready, guard_ready, skip_found, set_found, send_found, receive_found, sequence_found, first_found, second_found, open_found, closed_found, branch_found, loop_found}
use Rattle.processes.proofs.Stores.{one_stores, set_stores, two_store, part_stores, first_stores, second_stores}
use Rattle.processes.proofs.finding.+front_at.Goals as goal

pub unreachable-requires : goal.unreachable-requires
unreachable-requires t c =
    no_stmt c.args.file.now c.args.at c.requires.0 c.in_default.ensures.exact c.requires.2.here

pub evaluate-requires : goal.evaluate-requires
evaluate-requires t c =
    let f = c.args.file.now in
    let h0 = c.requires.2 in
    let p = stmt_here f c.args.at c.requires.0 c.in-Set.is c.in-Some.ensures.exact h0.here in
    (p.0, p.2)

pub sent_values-sent-requires : goal.sent_values-sent-requires
sent_values-sent-requires t c =
    let f = c.args.file.now in
    let h0 = c.requires.2 in
    let p = stmt_here f c.args.at c.requires.0 c.in-Send.is c.in-Some.ensures.exact h0.here in
    let h = subst (λ u. Ready f c.args.at c.args.rest u c.requires.1) p.1 h0 in
    (p.0, p.2, p.3, omega (arith, p.2, h.kept.2.0.count_kept))

pub with-requires : goal.with-requires
with-requires t c =
    let f = c.args.file.now in
    let h0 = c.requires.2 in
    let p = stmt_here f c.args.at c.requires.0 c.in-Seq.is c.in-Some.ensures.exact h0.here in
    let h = subst (λ u. Ready f c.args.at c.args.rest u c.requires.1) p.2 h0 in
    omega (arith, has_room f _ _ _ _ h (omega (arith, some_deep p.0)))

pub front_at-requires : goal.front_at-requires
front_at-requires t c =
    let f = c.args.file.now in
    let h0 = c.requires.2 in
    let p = stmt_here f c.args.at c.requires.0 c.in-Seq.is c.in-Some.ensures.exact h0.here in
    let h = subst (λ u. Ready f c.args.at c.args.rest u c.requires.1) p.2 h0 in
    (omega (arith, c.decreases, ap command_size c.in-Seq.is, c.in-Some.ensures.long), (p.0, p.1 ∷ c.requires.1, sequence_ready f _ _ _ p.0 p.1 _ _ c.with.ensures h p.4 p.5))

pub most_fronts-possible-requires : goal.most_fronts-possible-requires
most_fronts-possible-requires t c =
    let f = c.args.file.now in
    let h0 = c.requires.2 in
    let p = stmt_here f c.args.at c.requires.0 c.in-Sel.is c.in-Some.ensures.exact h0.here in
    let h = subst (λ u. Ready f c.args.at c.args.rest u c.requires.1) p.2 h0 in
    (p.0, p.4, few_fronts h.kept.0 h.kept.1 p.0 h.kept.2.1)

pub front_at-requires-then-number-possible : goal.front_at-requires-then-number-possible
front_at-requires-then-number-possible t c =
    let f = c.args.file.now in
    let h0 = c.requires.2 in
    let p = stmt_here f c.args.at c.requires.0 c.in-Sel.is c.in-Some.ensures.exact h0.here in
    let h = subst (λ u. Ready f c.args.at c.args.rest u c.requires.1) p.2 h0 in
    (omega (arith, c.decreases, ap command_size c.in-Sel.is, c.in-Some.ensures.long), (p.0, c.requires.1, first_ready f _ _ _ p.0 p.1 h p.4))

pub front_at-requires-else-number-possible : goal.front_at-requires-else-number-possible
front_at-requires-else-number-possible t c =
    let f = c.args.file.now in
    let h0 = c.requires.2 in
    let p = stmt_here f c.args.at c.requires.0 c.in-Sel.is c.in-Some.ensures.exact h0.here in
    let h = subst (λ u. Ready f c.args.at c.args.rest u c.requires.1) p.2 h0 in
    (omega (arith, c.decreases, p.3, ap command_size c.in-Sel.is, c.in-Some.ensures.long), (p.1, c.requires.1, second_ready f _ _ _ p.0 p.1 _ h p.5))

pub evaluate-requires-in-Guard : goal.evaluate-requires-in-Guard
evaluate-requires-in-Guard t c =
    let f = c.args.file.now in
    let h0 = c.requires.2 in
    let p = stmt_here f c.args.at c.requires.0 c.in-Guard.is c.in-Some.ensures.exact h0.here in
    (p.0, p.4)

pub front_at-requires-then-is_true : goal.front_at-requires-then-is_true
front_at-requires-then-is_true t c =
    let f = c.args.file.now in
    let h0 = c.requires.2 in
    let p = stmt_here f c.args.at c.requires.0 c.in-Guard.is c.in-Some.ensures.exact h0.here in
    let h = subst (λ u. Ready f c.args.at c.args.rest u c.requires.1) p.2 h0 in
    (omega (arith, c.decreases, p.3, ap command_size c.in-Guard.is, c.in-Some.ensures.long), (p.1, c.requires.1, guard_ready f _ _ _ p.0 p.1 _ h p.5))

pub evaluate-condition-requires : goal.evaluate-condition-requires
evaluate-condition-requires t c =
    let f = c.args.file.now in
    let h0 = c.requires.2 in
    let p = stmt_here f c.args.at c.requires.0 c.in-If.is c.in-Some.ensures.exact h0.here in
    (p.0, p.6)

pub with-requires-in-If : goal.with-requires-in-If
with-requires-in-If t c =
    let f = c.args.file.now in
    let h0 = c.requires.2 in
    let p = stmt_here f c.args.at c.requires.0 c.in-If.is c.in-Some.ensures.exact h0.here in
    let h = subst (λ u. Ready f c.args.at c.args.rest u c.requires.1) p.3 h0 in
    omega (arith, has_room f _ _ _ _ h (omega (arith, some_deep p.1)))

pub with-requires-in-If-2 : goal.with-requires-in-If-2
with-requires-in-If-2 t c =
    let f = c.args.file.now in
    let h0 = c.requires.2 in
    let p = stmt_here f c.args.at c.requires.0 c.in-If.is c.in-Some.ensures.exact h0.here in
    let h = subst (λ u. Ready f c.args.at c.args.rest u c.requires.1) p.3 h0 in
    omega (arith, has_room f _ _ _ _ h (omega (arith, some_deep p.1)))

pub evaluate-condition-requires-in-Do : goal.evaluate-condition-requires-in-Do
evaluate-condition-requires-in-Do t c =
    let f = c.args.file.now in
    let h0 = c.requires.2 in
    let p = stmt_here f c.args.at c.requires.0 c.in-Do.is c.in-Some.ensures.exact h0.here in
    (p.0, p.4)

pub with-again-requires : goal.with-again-requires
with-again-requires t c =
    let f = c.args.file.now in
    let h0 = c.requires.2 in
    let p = stmt_here f c.args.at c.requires.0 c.in-Do.is c.in-Some.ensures.exact h0.here in
    let h = subst (λ u. Ready f c.args.at c.args.rest u c.requires.1) p.2 h0 in
    omega (arith, has_room f _ _ _ _ h (omega (arith, some_deep p.1)))

pub with-requires-in-Do : goal.with-requires-in-Do
with-requires-in-Do t c =
    let f = c.args.file.now in
    let h0 = c.requires.2 in
    let p = stmt_here f c.args.at c.requires.0 c.in-Do.is c.in-Some.ensures.exact h0.here in
    let h = subst (λ u. Ready f c.args.at c.args.rest u c.requires.1) p.2 h0 in
    omega (arith, has_room f _ _ _ _ h (omega (arith, some_deep p.1)), ap length c.with-again.ensures)

pub returns-in-Skip-clause-found : goal.returns-in-Skip-clause-found
returns-in-Skip-clause-found t c s ss k h =
    let f = c.args.file.now in
    let p = stmt_here f c.args.at s c.in-Skip.is c.in-Some.ensures.exact h.here in
    skip_found f _ _ ss _ _ _ s k c.one_front.ensures p h

pub returns-in-Skip-clause-stores : goal.returns-in-Skip-clause-stores
returns-in-Skip-clause-stores t c s ss h =
    let f = c.args.file.now in
    let p = stmt_here f c.args.at s c.in-Skip.is c.in-Some.ensures.exact h.here in
    one_stores _ _ _ s _ _ skip c.one_front.ensures p refl

pub returns-in-Set-clause-found : goal.returns-in-Set-clause-found
returns-in-Set-clause-found t c s ss k h =
    let f = c.args.file.now in
    let p = stmt_here f c.args.at s c.in-Set.is c.in-Some.ensures.exact h.here in
    set_found f _ _ ss _ _ _ s k _ _ p.0 c.one_front-in-Set.ensures p.1 (c.from-row.ensures.2 ∙ c.evaluate.ensures p.0 p.2) h

pub returns-in-Set-clause-stores : goal.returns-in-Set-clause-stores
returns-in-Set-clause-stores t c s ss h =
    let f = c.args.file.now in
    let p = stmt_here f c.args.at s c.in-Set.is c.in-Some.ensures.exact h.here in
    set_stores _ _ _ s _ _ p.0 _ c.one_front-in-Set.ensures p.1 (c.from-row.ensures.2 ∙ c.evaluate.ensures p.0 p.2)

pub returns-in-Send-clause-found : goal.returns-in-Send-clause-found
returns-in-Send-clause-found t c s ss k h =
    let f = c.args.file.now in
    let p = stmt_here f c.args.at s c.in-Send.is c.in-Some.ensures.exact h.here in
    send_found f _ _ ss _ _ _ s k _ _ _ p.0 c.one_front-in-Send.ensures p.1 (c.sent_values-sent.ensures p.0 p.2 p.3) h

pub returns-in-Send-clause-stores : goal.returns-in-Send-clause-stores
returns-in-Send-clause-stores t c s ss h =
    let f = c.args.file.now in
    let p = stmt_here f c.args.at s c.in-Send.is c.in-Some.ensures.exact h.here in
    one_stores _ _ _ s _ _ _ c.one_front-in-Send.ensures p.1 refl

pub returns-in-Recv-clause-found : goal.returns-in-Recv-clause-found
returns-in-Recv-clause-found t c s ss k h =
    let f = c.args.file.now in
    let p = stmt_here f c.args.at s c.in-Recv.is c.in-Some.ensures.exact h.here in
    receive_found f _ _ ss _ _ _ s k _ _ _ p.0 c.one_front-in-Recv.ensures p.1 (c.first-targets.ensures ∙ received _ _ p.0 p.2 p.3) h

pub returns-in-Recv-clause-stores : goal.returns-in-Recv-clause-stores
returns-in-Recv-clause-stores t c s ss h =
    let f = c.args.file.now in
    let p = stmt_here f c.args.at s c.in-Recv.is c.in-Some.ensures.exact h.here in
    one_stores _ _ _ s _ _ _ c.one_front-in-Recv.ensures p.1 refl

pub returns-in-Seq-clause-found : goal.returns-in-Seq-clause-found
returns-in-Seq-clause-found t c s ss k h =
    let f = c.args.file.now in
    let p = stmt_here f c.args.at s c.in-Seq.is c.in-Some.ensures.exact h.here in
    let g = subst (λ u. Ready f c.args.at c.args.rest u ss) p.2 h in
    sequence_found f c.args.at c.args.rest ss _ _ _ s k p.0 p.1 p.2 (c.front_at.ensures.found p.0 (p.1 ∷ ss) k (sequence_ready f _ _ _ p.0 p.1 _ _ c.with.ensures g p.4 p.5))

pub returns-in-Seq-clause-stores : goal.returns-in-Seq-clause-stores
returns-in-Seq-clause-stores t c s ss h =
    let f = c.args.file.now in
    let p = stmt_here f c.args.at s c.in-Seq.is c.in-Some.ensures.exact h.here in
    let g = subst (λ u. Ready f c.args.at c.args.rest u ss) p.2 h in
    part_stores _ _ _ s (sequence p.0 p.1) _ p.2 refl (c.front_at.ensures.stores p.0 (p.1 ∷ ss) (sequence_ready f _ _ _ p.0 p.1 _ _ c.with.ensures g p.4 p.5))

pub returns-then-number-possible-clause-found : goal.returns-then-number-possible-clause-found
returns-then-number-possible-clause-found t c s ss k h =
    let f = c.args.file.now in
    let p = stmt_here f c.args.at s c.in-Sel.is c.in-Some.ensures.exact h.here in
    let g = subst (λ u. Ready f c.args.at c.args.rest u ss) p.2 h in
    first_found f c.args.at c.args.rest ss _ _ _ s k p.0 p.1 p.2 (omega (arith, c.most_fronts-possible.ensures p.0 p.4)) (c.front_at-then-number-possible.ensures.found p.0 ss k (first_ready f _ _ _ p.0 p.1 g p.4))

pub returns-then-number-possible-clause-stores : goal.returns-then-number-possible-clause-stores
returns-then-number-possible-clause-stores t c s ss h =
    let f = c.args.file.now in
    let p = stmt_here f c.args.at s c.in-Sel.is c.in-Some.ensures.exact h.here in
    let g = subst (λ u. Ready f c.args.at c.args.rest u ss) p.2 h in
    first_stores _ _ _ s p.0 p.1 p.2 (omega (arith, c.most_fronts-possible.ensures p.0 p.4)) (c.front_at-then-number-possible.ensures.stores p.0 ss (first_ready f _ _ _ p.0 p.1 g p.4))

pub returns-else-number-possible-clause-found : goal.returns-else-number-possible-clause-found
returns-else-number-possible-clause-found t c s ss k h =
    let f = c.args.file.now in
    let p = stmt_here f c.args.at s c.in-Sel.is c.in-Some.ensures.exact h.here in
    let g = subst (λ u. Ready f c.args.at c.args.rest u ss) p.2 h in
    second_found f c.args.at c.args.rest ss _ _ _ s k p.0 p.1 _ p.2 (c.most_fronts-possible.ensures p.0 p.4) (omega arith) (c.front_at-else-number-possible.ensures.found p.1 ss (k + most_fronts p.0) (second_ready f _ _ _ p.0 p.1 _ g p.5))

pub returns-else-number-possible-clause-stores : goal.returns-else-number-possible-clause-stores
returns-else-number-possible-clause-stores t c s ss h =
    let f = c.args.file.now in
    let p = stmt_here f c.args.at s c.in-Sel.is c.in-Some.ensures.exact h.here in
    let g = subst (λ u. Ready f c.args.at c.args.rest u ss) p.2 h in
    second_stores _ _ _ s p.0 p.1 _ p.2 (c.most_fronts-possible.ensures p.0 p.4) (omega arith) (c.front_at-else-number-possible.ensures.stores p.1 ss (second_ready f _ _ _ p.0 p.1 _ g p.5))

pub returns-then-is_true-clause-found : goal.returns-then-is_true-clause-found
returns-then-is_true-clause-found t c s ss k h =
    let f = c.args.file.now in
    let p = stmt_here f c.args.at s c.in-Guard.is c.in-Some.ensures.exact h.here in
    let g = subst (λ u. Ready f c.args.at c.args.rest u ss) p.2 h in
    let v = c.evaluate-in-Guard.ensures p.0 p.4 in
    open_found f c.args.at c.args.rest ss _ _ _ s k p.0 p.1 p.2 (ap is_true (sym v) ∙ sym c.is_true.ensures ∙ c.if-is_true.true) (c.front_at-then-is_true.ensures.found p.1 ss k (guard_ready f _ _ _ p.0 p.1 _ g p.5))

pub returns-then-is_true-clause-stores : goal.returns-then-is_true-clause-stores
returns-then-is_true-clause-stores t c s ss h =
    let f = c.args.file.now in
    let p = stmt_here f c.args.at s c.in-Guard.is c.in-Some.ensures.exact h.here in
    let g = subst (λ u. Ready f c.args.at c.args.rest u ss) p.2 h in
    part_stores _ _ _ s (guard p.0 p.1) _ p.2 refl (c.front_at-then-is_true.ensures.stores p.1 ss (guard_ready f _ _ _ p.0 p.1 _ g p.5))

pub returns-else-is_true-clause-found : goal.returns-else-is_true-clause-found
returns-else-is_true-clause-found t c s ss k h =
    let f = c.args.file.now in
    let p = stmt_here f c.args.at s c.in-Guard.is c.in-Some.ensures.exact h.here in
    let v = c.evaluate-in-Guard.ensures p.0 p.4 in
    closed_found f c.args.at c.args.rest ss _ _ _ s k p.0 p.1 p.2 (ap is_true (sym v) ∙ sym c.is_true.ensures ∙ c.if-is_true.false) refl

pub returns-in-If-clause-found : goal.returns-in-If-clause-found
returns-in-If-clause-found t c s ss k h =
    let f = c.args.file.now in
    let p = stmt_here f c.args.at s c.in-If.is c.in-Some.ensures.exact h.here in
    branch_found f _ _ ss _ _ _ s k _ p.0 p.1 p.2 _ _ _ _ c.two_fronts.ensures (c.evaluate-condition.ensures p.0 p.6) p.3 c.with-in-If.ensures c.with-in-If-2.ensures p.7 p.8 h

pub returns-in-If-clause-stores : goal.returns-in-If-clause-stores
returns-in-If-clause-stores t c s ss h =
    let f = c.args.file.now in
    let p = stmt_here f c.args.at s c.in-If.is c.in-Some.ensures.exact h.here in
    two_store _ _ _ s (meaning c.evaluate-condition.result) c.with-in-If.result c.with-in-If-2.result (branch p.0 p.1 p.2) c.two_fronts.ensures p.3 refl

pub returns-in-Do-clause-found : goal.returns-in-Do-clause-found
returns-in-Do-clause-found t c s ss k h =
    let f = c.args.file.now in
    let p = stmt_here f c.args.at s c.in-Do.is c.in-Some.ensures.exact h.here in
    loop_found f _ _ ss _ _ _ s k _ p.0 p.1 _ c.with-again.result _ c.two_fronts-in-Do.ensures (c.evaluate-condition-in-Do.ensures p.0 p.4) p.2 c.with-again.ensures c.with-in-Do.ensures p.5 h

pub returns-in-Do-clause-stores : goal.returns-in-Do-clause-stores
returns-in-Do-clause-stores t c s ss h =
    let f = c.args.file.now in
    let p = stmt_here f c.args.at s c.in-Do.is c.in-Some.ensures.exact h.here in
    two_store _ _ _ s (meaning c.evaluate-condition-in-Do.result) c.with-in-Do.result c.args.rest (loop p.0 p.1) c.two_fronts-in-Do.ensures p.2 refl
