use Rattle.std.proofs.Common.{◌<◌, ◌≤◌, ◌^◌, arith, le-ltb}
use Rattle.std.proofs.Math.Nat.{pow-le-pow_right, div-eq_of_lt}
use Rattle.commands.proofs.set.in_set.Goals as goal

-- a channel past the last bit is in no set
pub returns-else-channel-lt32 : goal.returns-else-channel-lt32
returns-else-channel-lt32 c =
    let past = c.if-channel-lt32.false in
    let more : 2 ^ 32 ≤ 2 ^ c.args.channel = pow-le-pow_right (omega arith) past in
    let less : c.args.set < 2 ^ c.args.channel = omega (arith, more, c.ranges.set.fits) in
    let none = div-eq_of_lt less in
    rw (none, le-ltb c.args.channel 32 past)
