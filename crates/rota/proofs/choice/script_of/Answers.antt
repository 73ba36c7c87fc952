use Rattle.std.proofs.Common.{vec_items}
use Rattle.rota.proofs.Names.{no_script}
use Rattle.rota.proofs.Scripts.{numbers_more}
use Rattle.rota.proofs.choice.script_of.Goals as goal

pub returns-in_default : goal.returns-in_default
returns-in_default c = no_script _ c.args.words.now c.loop-word.word-index c.loop-word-test.true c.in_default.ensures

pub loop-word-preserved : goal.loop-word-preserved
loop-word-preserved c =
    let l = c.loop-word in
    numbers_more c.args.words.now l.word-index (vec_items l.numbers) l.invariant _ c.in-Some.n (vec_items c.push.new.self) c.loop-word-test.true c.in-Some.ensures c.in_ok-push.ensures.items
