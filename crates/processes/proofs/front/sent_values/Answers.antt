use Rattle.std.proofs.Common.{[], ◌∷◌, map, length, ap, ◌∙◌, length-append, arith}
use Rattle.values.specs.Few.{listed}
use Rattle.values.specs.Rows.{value_of_row}
use Rattle.processes.proofs.Sending.{one_more, sending_first, sending_next}
use Rattle.processes.proofs.front.sent_values.Goals as goal

pub evaluate-requires : goal.evaluate-requires
evaluate-requires c = sending_first _ _ c.args.count c.loop-i._i _ _ _ (c.loop-i.invariant.1 c.requires.0 c.requires.1 c.requires.2) c.loop-i-test.true

pub end_of_expression-place-requires : goal.end_of_expression-place-requires
end_of_expression-place-requires c = sending_first _ _ c.args.count c.loop-i._i _ _ _ (c.loop-i.invariant.1 c.requires.0 c.requires.1 c.requires.2) c.loop-i-test.true

pub loop-i-preserved : goal.loop-i-preserved
loop-i-preserved c =
    let sent = listed c.loop-i.sent in
    (omega (arith, ap length c.push.ensures, length-append sent (c.from.result ∷ []), c.loop-i.invariant.0), λ es n s. sending_next _ _ _ _ _ _ _ _ _ _ (ap (map value_of_row) c.push.ensures ∙ one_more sent c.from.result _ c.from.ensures.2) c.evaluate.ensures c.end_of_expression-place.ensures (c.loop-i.invariant.1 es n s) c.loop-i-test.true)
