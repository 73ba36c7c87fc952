use Rattle.std.proofs.Common.{arith, ◌≡◌, ◌+◌, subst}
use Rattle.arrivals.specs.Filling.{Copied}
use Rattle.arrivals.proofs.Columns.{no_cell, one_cell}
use Rattle.arrivals.proofs.filling.copy_cells.Goals as goal

pub loop-q-init : goal.loop-q-init
loop-q-init c = no_cell _ _ _ _ _

pub loop-q-preserved : goal.loop-q-preserved
loop-q-preserved c = one_cell _ _ _ _ _ _ c.args.right _ (omega arith) (omega arith) (omega arith) (omega arith) c.requires.apart c.loop-q.invariant c.copy_row.ensures

pub returns : goal.returns
returns c =
    let e : c.loop-q.q ≡ c.args.right = omega arith in
    subst (λ x. Copied c.args.table.now c.loop-q.table c.args.p (c.args.p + 1) c.args.left x c.args.source) e c.loop-q.invariant
