use Rattle.std.proofs.Common.{◌≡◌, get_or, Err, sym, ap, ◌∙◌}
use Rattle.values.specs.Texts.{meaning_read}
use Rattle.session.specs.Operands.{as_row, read_row}
use Rattle.session.proofs.Reading.{no_rows}
use Rattle.session.proofs.operands.rows_of.Goals as goal

pub returns-in_default : goal.returns-in_default
returns-in_default c =
    let ws = c.args.words.now in
    let read : read_row (get_or ws c.loop-word.word-index _).now ≡ Err c.in_default.field-0 = ap as_row (sym c.parse.ensures.value ∙ ap meaning_read c.in_default.is) in
    no_rows ws c.loop-word.word-index _ c.in_default.field-0 c.loop-word-test.true read
