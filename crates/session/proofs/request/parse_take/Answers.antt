use Rattle.std.proofs.Common.{refl}
use Rattle.rota.specs.Words.{texts}
use Rattle.session.proofs.Reading.{values_behind}
use Rattle.session.proofs.request.parse_take.Goals as goal

pub returns-in_default : goal.returns-in_default
returns-in_default c = (texts c.args.words.now, refl, λ s rows h. c.in_default.ensures s h.0)

pub returns-in-Err-NotAValue : goal.returns-in-Err-NotAValue
returns-in-Err-NotAValue c = (texts c.args.words.now, refl, λ s rows h. (rw c.in-Err-NotAValue.field-0-is at c.in-Err-NotAValue.ensures) rows (values_behind c.args.words.now rows h.1))
