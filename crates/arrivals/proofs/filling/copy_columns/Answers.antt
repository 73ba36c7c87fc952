use Rattle.std.proofs.Common.{arith, ◌≡◌, subst}
use Rattle.arrivals.specs.Filling.{Copied}
use Rattle.arrivals.proofs.Columns.{no_column, one_column}
use Rattle.arrivals.proofs.filling.copy_columns.Goals as goal

pub loop-p-init : goal.loop-p-init
loop-p-init c = no_column _ _ _ _ _

pub loop-p-preserved : goal.loop-p-preserved
loop-p-preserved c = one_column _ _ _ _ _ _ _ _ (omega arith) (omega arith) (omega arith) c.loop-p.invariant c.copy_cells.ensures

pub returns : goal.returns
returns c =
    let e : c.loop-p.p ≡ c.args.end = omega arith in
    subst (λ x. Copied c.args.table.now c.loop-p.table c.args.first x c.args.left c.args.right c.args.source) e c.loop-p.invariant
