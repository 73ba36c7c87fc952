use Rattle.std.proofs.Common.{ℕ, slice_index, ap, rules}
use Rattle.rota.specs.Turns.{passed_over, waiting_after}
use Rattle.rota.specs.declared.turns.Waiting.{Waiting}
use Rattle.rota.proofs.Arrays.{made_from}
use Rattle.rota.proofs.turns.Waiting.after.Goals as goal

pub returns : goal.returns
unfolding waiting_after
returns c =
    let i = c.from_fn-turns.ensures.items in
    let at : ℕ → ℕ = λ p. passed_over c.args.closed.now c.args.step p (slice_index c.args.self.turns p) in
    ap (λ ts. let w : Waiting = record { turns = ts } in w) (made_from _ at _ (λ p y q h. search rules) c.from_fn-turns.result 0 8 i.long i.each)
