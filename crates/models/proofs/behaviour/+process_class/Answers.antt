use Rattle.std.proofs.Common.{◌≡◌, ℕ, ◌+◌, ◌-◌, ◌<◌, ◌≤◌, [], ◌∷◌, ◌++◌, length, get_or, sym, ap, ◌∙◌, arith}
use Rattle.std.proofs.lemmas.List.{get_or_append_left, get_or-append-add}
use Rattle.commands.specs.Behaviours.{command_size}
use Rattle.commands.specs.Trees.{Behaviour, process, parallel}
use Rattle.admission.specs.Conditions.{processes}
use Rattle.parts.proofs.Walking.{behaviour_here, no_behaviour}
use Rattle.steps.specs.Models.{process_classes}
use Rattle.steps.proofs.Staying.{count}
use Rattle.models.proofs.behaviour.+process_class.Goals as goal

only : (u : Behaviour) (k p : ℕ) → u ≡ process k → p < processes u → k ≡ get_or (process_classes u) p 0
only u k p e h =
    let zero-th : p ≡ 0 = omega (arith, h, ap processes e) in
    sym (ap (λ v. get_or (process_classes v) p 0) e ∙ ap (λ i. get_or (k ∷ []) i 0) zero-th)

module _ (u a b : Behaviour) (p : ℕ) (e : u ≡ parallel a b) where
  in_first : (r : ℕ) → p < processes a → r ≡ get_or (process_classes a) p 0 → r ≡ get_or (process_classes u) p 0
  in_first r h k = k ∙ sym (ap (λ v. get_or (process_classes v) p 0) e ∙ get_or_append_left (process_classes a) (process_classes b) 0 p (omega (arith, h, count a)))

  in_second : (r n : ℕ) → n ≡ processes a → n ≤ p → r ≡ get_or (process_classes b) (p - n) 0 → r ≡ get_or (process_classes u) p 0
  in_second r n f h k =
      let at : p ≡ length (process_classes a) + (p - n) = omega (arith, f, h, count a) in
      k ∙ sym (ap (λ v. get_or (process_classes v) p 0) e ∙ ap (λ i. get_or (process_classes a ++ process_classes b) i 0) at ∙ get_or-append-add (process_classes a) (process_classes b) (p - n) 0)

pub unreachable-requires : goal.unreachable-requires
unreachable-requires t c = no_behaviour c.args.file.now c.args.at c.requires.0 c.in_default.ensures.exact c.requires.1

pub processes_in-first-requires : goal.processes_in-first-requires
processes_in-first-requires t c =
    let p = behaviour_here c.args.file.now c.args.at c.requires.0 c.in-Par.is c.in-Some.ensures.exact c.requires.1 in
    (p.0, p.4, omega (arith, c.requires.2, ap processes p.2))

pub process_class-requires : goal.process_class-requires
process_class-requires t c =
    let p = behaviour_here c.args.file.now c.args.at c.requires.0 c.in-Par.is c.in-Some.ensures.exact c.requires.1 in
    let n = c.processes_in-first.ensures p.0 p.4 in
    (omega (arith, c.decreases, ap command_size c.in-Par.is, c.in-Some.ensures.long), (p.0, p.4, omega (arith, c.requires.2, ap processes p.2), omega (arith, n, c.if-process-first.true)))

pub process_class-requires-else-process-first : goal.process_class-requires-else-process-first
process_class-requires-else-process-first t c =
    let p = behaviour_here c.args.file.now c.args.at c.requires.0 c.in-Par.is c.in-Some.ensures.exact c.requires.1 in
    let n = c.processes_in-first.ensures p.0 p.4 in
    (omega (arith, c.decreases, p.3, ap command_size c.in-Par.is, c.in-Some.ensures.long), (p.1, p.5, omega (arith, c.requires.2, ap processes p.2), omega (arith, n, c.if-process-first.false, c.requires.3, ap processes p.2)))

pub process_class-requires-in-Hide : goal.process_class-requires-in-Hide
process_class-requires-in-Hide t c =
    let p = behaviour_here c.args.file.now c.args.at c.requires.0 c.in-Hide.is c.in-Some.ensures.exact c.requires.1 in
    (omega (arith, c.decreases, ap command_size c.in-Hide.is, c.in-Some.ensures.long), (p.0, p.2, omega (arith, c.requires.2, ap processes p.1), omega (arith, c.requires.3, ap processes p.1)))

pub process_class-requires-in-Rename : goal.process_class-requires-in-Rename
process_class-requires-in-Rename t c =
    let p = behaviour_here c.args.file.now c.args.at c.requires.0 c.in-Rename.is c.in-Some.ensures.exact c.requires.1 in
    (omega (arith, c.decreases, ap command_size c.in-Rename.is, c.in-Some.ensures.long), (p.0, p.2, omega (arith, c.requires.2, ap processes p.1), omega (arith, c.requires.3, ap processes p.1)))

pub returns-in-Proc : goal.returns-in-Proc
returns-in-Proc t c u s h = only u _ c.args.process (behaviour_here c.args.file.now c.args.at u c.in-Proc.is c.in-Some.ensures.exact s) h

pub returns-then-process-first : goal.returns-then-process-first
returns-then-process-first t c u s h =
    let p = behaviour_here c.args.file.now c.args.at u c.in-Par.is c.in-Some.ensures.exact s in
    let n = c.processes_in-first.ensures p.0 p.4 in
    let below : c.args.process < processes p.0 = omega (arith, n, c.if-process-first.true) in
    in_first u p.0 p.1 c.args.process p.2 _ below (c.process_class.ensures p.0 p.4 below)

pub returns-else-process-first : goal.returns-else-process-first
returns-else-process-first t c u s h =
    let p = behaviour_here c.args.file.now c.args.at u c.in-Par.is c.in-Some.ensures.exact s in
    let n = c.processes_in-first.ensures p.0 p.4 in
    let below : c.args.process - c.processes_in-first.result < processes p.1 = omega (arith, n, c.if-process-first.false, h, ap processes p.2) in
    in_second u p.0 p.1 c.args.process p.2 _ _ n c.if-process-first.false (c.process_class-else-process-first.ensures p.1 p.5 below)

pub returns-in-Hide : goal.returns-in-Hide
returns-in-Hide t c u s h =
    let p = behaviour_here c.args.file.now c.args.at u c.in-Hide.is c.in-Some.ensures.exact s in
    c.process_class-in-Hide.ensures p.0 p.2 (omega (arith, h, ap processes p.1)) ∙ sym (ap (λ v. get_or (process_classes v) c.args.process 0) p.1)

pub returns-in-Rename : goal.returns-in-Rename
returns-in-Rename t c u s h =
    let p = behaviour_here c.args.file.now c.args.at u c.in-Rename.is c.in-Some.ensures.exact s in
    c.process_class-in-Rename.ensures p.0 p.2 (omega (arith, h, ap processes p.1)) ∙ sym (ap (λ v. get_or (process_classes v) c.args.process 0) p.1)
