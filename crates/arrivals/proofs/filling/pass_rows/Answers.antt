use Rattle.std.proofs.Common.{arith, ◌≡◌, subst}
use Rattle.arrivals.specs.Filling.{RowsPast}
use Rattle.arrivals.proofs.Columns.{none_past, one_past}
use Rattle.arrivals.proofs.filling.pass_rows.Goals as goal

pub loop-p-init : goal.loop-p-init
loop-p-init c = none_past _ _ _

pub loop-p-preserved : goal.loop-p-preserved
loop-p-preserved c = one_past _ _ _ _ _ _ (omega arith) c.loop-p.invariant c.pass_row.ensures

pub returns : goal.returns
returns c =
    let e : c.loop-p.p ≡ c.args.end = omega arith in
    subst (λ x. RowsPast c.args.table.now c.loop-p.table c.args.first x c.args.command) e c.loop-p.invariant
