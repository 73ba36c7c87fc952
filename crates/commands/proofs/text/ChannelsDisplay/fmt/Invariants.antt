use Rattle.std.specs.Fmt.{HasWritten, IsPlainFormatter}
use Rattle.std.specs.List.{flat_map, range_with_len}
use Rattle.commands.specs.Texts.{channel_text}
use Rattle.commands.proofs.text.ChannelsDisplay.fmt.Given as goal

abbrev pub invariant-loop-channel : goal.invariant-loop-channel
invariant-loop-channel g l =
    IsPlainFormatter l.initial.f → HasWritten g.W.Write.write_str_gives l.initial.f (flat_map (channel_text l.self.0) (range_with_len 0 l.channel-counter)) l.f
