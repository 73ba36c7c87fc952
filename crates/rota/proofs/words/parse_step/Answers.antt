use Rattle.std.proofs.lemmas.Result.{err_from_is_err_and}
use Rattle.rota.proofs.Lines.{fields}
use Rattle.rota.proofs.words.parse_step.Goals as goal

pub returns-in_err-kind-clause-exact : goal.returns-in_err-kind-clause-exact
returns-in_err-kind-clause-exact c = let p = err_from_is_err_and c.from_residual.result c.from_residual.ensures.1 in rw p.1 (λ s h. c.in_err-kind.ensures.0 s.kind (fields _ c.args.words.now s h).kind)

pub returns-in_err-process-clause-exact : goal.returns-in_err-process-clause-exact
returns-in_err-process-clause-exact c = let p = err_from_is_err_and c.from_residual-in_err-process.result c.from_residual-in_err-process.ensures.1 in rw p.1 (λ s h. c.in_err-process.ensures.0 s.process (fields _ c.args.words.now s h).process)

pub returns-in_err-front-clause-exact : goal.returns-in_err-front-clause-exact
returns-in_err-front-clause-exact c = let p = err_from_is_err_and c.from_residual-in_err-front.result c.from_residual-in_err-front.ensures.1 in rw p.1 (λ s h. c.in_err-front.ensures.0 s.front (fields _ c.args.words.now s h).front)

pub returns-in_err-partner-clause-exact : goal.returns-in_err-partner-clause-exact
returns-in_err-partner-clause-exact c = let p = err_from_is_err_and c.from_residual-in_err-partner.result c.from_residual-in_err-partner.ensures.1 in rw p.1 (λ s h. c.in_err-partner.ensures.0 s.partner (fields _ c.args.words.now s h).partner)

pub returns-in_err-partner_front-clause-exact : goal.returns-in_err-partner_front-clause-exact
returns-in_err-partner_front-clause-exact c = let p = err_from_is_err_and c.from_residual-in_err-partner_front.result c.from_residual-in_err-partner_front.ensures.1 in rw p.1 (λ s h. c.in_err-partner_front.ensures.0 s.partner_front (fields _ c.args.words.now s h).partner_front)

pub returns-in_err-channel-clause-exact : goal.returns-in_err-channel-clause-exact
returns-in_err-channel-clause-exact c = let p = err_from_is_err_and c.from_residual-in_err-channel.result c.from_residual-in_err-channel.ensures.1 in rw p.1 (λ s h. c.in_err-channel.ensures.0 s.channel (fields _ c.args.words.now s h).channel)

pub returns-in_err-message-clause-exact : goal.returns-in_err-message-clause-exact
returns-in_err-message-clause-exact c = let p = err_from_is_err_and c.from_residual-in_err-message.result c.from_residual-in_err-message.ensures.1 in rw p.1 (λ s h. c.in_err-message.ensures.0 s.message (fields _ c.args.words.now s h).message)
