use Rattle.std.proofs.Common.{◌+◌, drop, ap, ◌∙◌}
use Rattle.processes.specs.Classes.{stored}
use Rattle.processes.specs.Evaluation.{values_of}
use Rattle.tables.proofs.Storing.{stored_one, stored_out}
use Rattle.tables.proofs.moving.store_values.Goals as goal
use Rattle.tables.proofs.moving.store_values.Goals.{then-i-got, else-i-got}

pub loop-i-preserved : goal.loop-i-preserved
loop-i-preserved c =
    let i = c.loop-i.i in
    let ws = c.args.targets.now in
    let got = c.args.got.now in
    elim c.if-i-got.branch [
      | then-i-got w ↦ ap (λ rows. stored (values_of rows) (drop (i + 1) ws) (values_of (drop (i + 1) got))) (w.rows-is ∙ w.put_row.ensures) ∙ stored_one c.loop-i.rows ws got i c.loop-i-test.true w.if-i-got.true _ ∙ c.loop-i.invariant
      | else-i-got w ↦ ap (λ rows. stored (values_of rows) (drop (i + 1) ws) (values_of (drop (i + 1) got))) w.rows-is ∙ stored_out c.loop-i.rows ws got i w.if-i-got.false ∙ c.loop-i.invariant
    ]
