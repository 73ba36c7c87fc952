use Rattle.parts.proofs.Walking.{ahead_first, ahead_next}
use Rattle.parts.proofs.walk.end_of_values.Goals as goal

pub end_of_expression-end-requires : goal.end_of_expression-end-requires
end_of_expression-end-requires c = ahead_first _ c.args.count c.loop-i._i _ _ (c.loop-i.invariant c.requires.0 c.requires.1 c.requires.2) c.loop-i-test.true

pub loop-i-preserved : goal.loop-i-preserved
loop-i-preserved c es n s = ahead_next _ _ _ _ _ _ c.end_of_expression-end.ensures (c.loop-i.invariant es n s) c.loop-i-test.true
