use Rattle.std.proofs.Common.{◌+◌, sym, subst, arith}
use Rattle.inspect.specs.Offers.{first_fronts}
use Rattle.inspect.proofs.Counting.{Counted, counted_start, counted_more, counted_same, counted_all}
use Rattle.inspect.proofs.fronts.count_fronts.Goals as goal
use Rattle.inspect.proofs.fronts.count_fronts.Goals.{then-is_offered, else-is_offered}

pub loop-number-init : goal.loop-number-init
loop-number-init c = (omega arith, λ d h. counted_start _ d _ h)

pub loop-number-preserved : goal.loop-number-preserved
loop-number-preserved c =
    elim c.if-is_offered.branch [
      | then-is_offered w ↦ (
        omega (arith, w.count-is, c.loop-number.invariant.0),
        λ d h. subst (λ n. Counted (first_fronts d) n (c.loop-number.number + 1)) (sym w.count-is) (counted_more (first_fronts d) _ _ c.loop-number-test.true _ w.if-is_offered.true (c.is_offered.ensures d h) (c.loop-number.invariant.1 d h)),
      )
      | else-is_offered w ↦ (
        omega (arith, w.count-is, c.loop-number.invariant.0),
        λ d h. subst (λ n. Counted (first_fronts d) n (c.loop-number.number + 1)) (sym w.count-is) (counted_same (first_fronts d) _ _ c.loop-number-test.true _ w.if-is_offered.false (c.is_offered.ensures d h) (c.loop-number.invariant.1 d h)),
      )
    ]

pub returns : goal.returns
returns c d h = counted_all _ _ _ (omega arith) (c.loop-number.invariant.1 d h)
