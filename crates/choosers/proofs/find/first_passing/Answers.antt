use Rattle.std.proofs.Common.{sym, refl, ◌∙◌}
use Rattle.choosers.proofs.Firsts.{first_here, first_more}
use Rattle.choosers.proofs.find.first_passing.Goals as goal

pub returns-then-test : goal.returns-then-test
returns-then-test g c = λ t h. sym (c.loop-i.invariant.1 t h ∙ first_here t c.args.closed.now c.loop-i.i _ c.loop-i-test.true (sym (h _ _ (record { shown = _; shows = refl; says = record { met = c.if-test.ensures } }))))

pub loop-i-preserved : goal.loop-i-preserved
loop-i-preserved g c = (c.requires, λ t h. c.loop-i.invariant.1 t h ∙ first_more t c.args.closed.now c.loop-i.i _ c.loop-i-test.true (sym (h _ _ (record { shown = _; shows = refl; says = record { met = c.if-test.ensures } }))))
