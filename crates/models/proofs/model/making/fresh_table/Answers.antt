use Rattle.std.proofs.Common.{◌≡◌, ◌<◌, length, get_or, sym, subst, arith}
use Rattle.commands.specs.Stands.{BehaviourAt}
use Rattle.admission.specs.Read.{tree_in}
use Rattle.admission.proofs.Deciding.{bytes_from}
use Rattle.steps.specs.Models.{class_numbered, process_classes}
use Rattle.models.proofs.Starting.{behaviour_there, as_many, few, class_exists, class_there, made_fresh, one_more}
use Rattle.models.proofs.model.making.fresh_table.Goals as goal

pub process_class-class-requires : goal.process_class-class-requires
process_class-class-requires c =
    let f = c.args.file.now in
    let bs = bytes_from f (λ i. omega (arith, (c.type_inv.file i).fits)) in
    let s = c.requires.0 in
    let h = c.requires.1 in
    let b = (tree_in f s).behaviour in (
      b,
      subst (λ at. BehaviourAt f at b) c.requires.2 (behaviour_there f s bs h),
      omega (arith, as_many f s bs h, few f s bs h),
      omega (arith, as_many f s bs h, c.requires.3, c.loop-p-test.true),
    )

pub of-fresh-requires : goal.of-fresh-requires
of-fresh-requires c =
    let f = c.args.file.now in
    let bs = bytes_from f (λ i. omega (arith, (c.type_inv.file i).fits)) in
    let s = c.requires.0 in
    let h = c.requires.1 in
    let t = tree_in f s in
    let k = c.process_class-class.result in
    let l : c.loop-p.p < s.2 = omega (arith, c.requires.3, c.loop-p-test.true) in
    let is : k ≡ get_or (process_classes t.behaviour) c.loop-p.p 0 =
    c.process_class-class.ensures t.behaviour (subst (λ at. BehaviourAt f at t.behaviour) c.requires.2 (behaviour_there f s bs h)) (omega (arith, as_many f s bs h, l))
    in
    let below : k < length t.classes = subst (λ n. n < length t.classes) (sym is) (class_exists f s bs h c.loop-p.p l) in
    (class_numbered t.classes k, class_there f s bs h k below)

pub loop-p-preserved : goal.loop-p-preserved
loop-p-preserved c s h a n =
    let f = c.args.file.now in
    let bs = bytes_from f (λ i. omega (arith, (c.type_inv.file i).fits)) in
    let t = tree_in f s in
    let p = c.loop-p.p in
    let k = c.process_class-class.result in
    let l : p < s.2 = omega (arith, n, c.loop-p-test.true) in
    let is : k ≡ get_or (process_classes t.behaviour) p 0 =
    c.process_class-class.ensures t.behaviour (subst (λ at. BehaviourAt f at t.behaviour) a (behaviour_there f s bs h)) (omega (arith, as_many f s bs h, l))
    in
    let below : k < length t.classes = subst (λ n. n < length t.classes) (sym is) (class_exists f s bs h p l) in
    let fr = c.of-fresh.ensures (class_numbered t.classes k) (class_there f s bs h k below) in
    let x = c.of-fresh.result in
    let made = made_fresh f s bs h c.loop-p.table c.set.new.self p k x c.fresh_entry.result l is fr c.fresh_entry.ensures c.set.ensures.places c.set.ensures.width c.set.ensures.entries c.set.ensures.rows in
    one_more f s bs h c.loop-p.table c.set.new.self p k x c.fresh_entry.result (c.loop-p.invariant s h a n) made c.set.ensures.entries c.set.ensures.rows

pub returns : goal.returns
returns c s h a n = let ft = c.loop-p.invariant s h a n in record { each = λ p l. ft.each p (omega (arith, l, c.loop-p-test.false)) }
