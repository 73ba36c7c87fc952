use Rattle.std.proofs.Common.{[], refl, arith}
use Rattle.processes.proofs.Sending.{sending_first}
use Rattle.offering.proofs.Placing.{placing_next, placing_done}
use Rattle.offering.proofs.sending.kinds_of_sent.Goals as goal

pub kind_of_expression-requires : goal.kind_of_expression-requires
kind_of_expression-requires c =
    let p = c.loop-i.invariant c.requires.0 c.requires.1 c.requires.2 in
    sending_first _ _ c.args.count c.loop-i.i _ _ _ p.ahead c.loop-i-test.true

pub end_of_expression-place-requires : goal.end_of_expression-place-requires
end_of_expression-place-requires c =
    let p = c.loop-i.invariant c.requires.0 c.requires.1 c.requires.2 in
    sending_first _ _ c.args.count c.loop-i.i _ _ _ p.ahead c.loop-i-test.true

pub loop-i-init : goal.loop-i-init
loop-i-init c es n s = record { done = []; many = refl; placed = refl; ahead = (es, omega (arith, n), s, refl) }

pub loop-i-preserved : goal.loop-i-preserved
loop-i-preserved c es n s =
    placing_next _ _ _ _ _ _ _ _ _ _ c.requires.3 refl c.kind_of_expression.ensures c.end_of_expression-place.ensures (c.loop-i.invariant es n s) c.loop-i-test.true

pub returns : goal.returns
returns c es n s = placing_done _ _ _ _ _ _ _ (c.loop-i.invariant es n s) (omega arith)
