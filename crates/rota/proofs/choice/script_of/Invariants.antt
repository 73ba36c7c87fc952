use Rattle.std.proofs.Common.{take, vec_items}
use Rattle.rota.specs.Choices.{Numbers}
use Rattle.rota.specs.Words.{texts}
use Rattle.rota.proofs.choice.script_of.Given as goal

abbrev pub invariant-loop-word : goal.invariant-loop-word
invariant-loop-word l = Numbers (texts (take l.word-index l.words)) (vec_items l.numbers)
