use Rattle.std.proofs.lemmas.Result.{err_from_is_err_and}
use Rattle.session.proofs.Reading.{fields}
use Rattle.session.proofs.operands.step_of.Goals as goal

pub returns-in_err-byte-5 : goal.returns-in_err-byte-5
returns-in_err-byte-5 c = let p = err_from_is_err_and c.from_residual-in_err-byte-5.result c.from_residual-in_err-byte-5.ensures.1 in rw p.1 (λ s h. c.in_err-byte-5.ensures.0 s.partner_front (fields _ c.args.words.now s h).partner_front)

pub returns-in_err-byte-6 : goal.returns-in_err-byte-6
returns-in_err-byte-6 c = let p = err_from_is_err_and c.from_residual-in_err-byte-6.result c.from_residual-in_err-byte-6.ensures.1 in rw p.1 (λ s h. c.in_err-byte-6.ensures.0 s.channel (fields _ c.args.words.now s h).channel)

pub returns-in_err-byte-7 : goal.returns-in_err-byte-7
returns-in_err-byte-7 c = let p = err_from_is_err_and c.from_residual-in_err-byte-7.result c.from_residual-in_err-byte-7.ensures.1 in rw p.1 (λ s h. c.in_err-byte-7.ensures.0 s.message (fields _ c.args.words.now s h).message)
