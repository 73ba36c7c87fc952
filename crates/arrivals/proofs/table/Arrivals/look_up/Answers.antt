use Rattle.std.proofs.Common.{rules, ap, ◌∙◌, arith}
use Rattle.arrivals.specs.Climbing.{arrival_in}
use Rattle.arrivals.proofs.ByteForms.{byte_read}
use Rattle.arrivals.proofs.table.Arrivals.look_up.Goals as goal

pub returns-then-channel-lt32 : goal.returns-then-channel-lt32
returns-then-channel-lt32 c =
    c.channel_of.ensures
    ∙ byte_read c.self.inside.bytes _ c.args.process c.args.to c.args.channel (ap (λ e. e.channels) c.self.view_is) (omega arith) (omega arith) (omega arith) (omega arith)

pub returns-else-process-lt8 : goal.returns-else-process-lt8
unfolding arrival_in
returns-else-process-lt8 c = search rules
