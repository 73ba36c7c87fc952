use Rattle.std.proofs.Common.{◌≡◌, ◌-◌, sym, subst, arith}
use Rattle.admission.proofs.Deciding.{bytes_from}
use Rattle.classes.proofs.Walking.{Ahead, ahead_start, ahead_within, ahead_next, ahead_done, class_begins, file_short}
use Rattle.classes.proofs.place.class_at.Goals as goal

pub loop-i-init : goal.loop-i-init
loop-i-init c d h =
    let f = c.args.file.now in
    let all : c.args.class - 0 ≡ c.args.class = omega arith in
    subst (λ n. Ahead f 4 n d) (sym all) (ahead_start f c.args.class d (bytes_from f (λ i. omega (arith, (c.type_inv.file i).fits))) h)

pub end_of_class-at-requires : goal.end_of_class-at-requires
end_of_class-at-requires c = omega (arith, ahead_within _ _ _ _ (c.loop-i.invariant c.requires.0 c.requires.1))

pub loop-i-preserved : goal.loop-i-preserved
loop-i-preserved c d h = ahead_next _ _ _ _ _ d c.end_of_class-at.ensures c.loop-i-test.true (c.loop-i.invariant d h)

pub overflow_add-result : goal.overflow_add-result
overflow_add-result c = omega (arith, ahead_within _ _ _ _ (c.loop-i.invariant c.requires.0 c.requires.1))

pub returns : goal.returns
returns c d h =
    let f = c.args.file.now in
    let small = bytes_from f (λ i. omega (arith, (c.type_inv.file i).fits)) in
    class_begins f _ d small (file_short f _ d small h) (ahead_done f _ _ _ d c.loop-i-test.false (c.loop-i.invariant d h))
