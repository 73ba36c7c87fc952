use Rattle.std.proofs.Common.{take, vec_items}
use Rattle.rota.specs.Words.{texts}
use Rattle.session.specs.Operands.{ValueWords}
use Rattle.session.proofs.operands.rows_of.Given as goal

abbrev pub invariant-loop-word : goal.invariant-loop-word
invariant-loop-word l = ValueWords (texts (take l.word-index l.words)) (vec_items l.rows)
