use Rattle.std.proofs.Common.{rules, ◌≡◌, true, false, [], ◌++◌, sym, refl, ap, ◌∙◌, append-nil, arith}
use Rattle.std.proofs.Output.{has_written_append, has_written_of_eq}
use Rattle.std.specs.List.{flat_map, range_with_len}
use Rattle.commands.specs.Sets.{in_set}
use Rattle.commands.specs.Texts.{spaced, channel_text}
use Rattle.commands.proofs.Channels.{range_more}
use Rattle.commands.proofs.text.ChannelsDisplay.fmt.Goals.{then-in_set+in_ok-write, else-in_set}
use Rattle.commands.proofs.text.ChannelsDisplay.fmt.Goals as goal

pub loop-channel-preserved : goal.loop-channel-preserved
loop-channel-preserved g c p =
    let s = c.args.self.now.0 in
    let n = c.loop-channel.channel-counter in
    let f = channel_text s in
    let before = flat_map f (range_with_len 0 n) in
    let more = range_more f n in
    elim c.if-in_set.branch [
      | then-in_set+in_ok-write w ↦
          let told : in_set s n ≡ true = search rules in
          let word : f n ≡ spaced n = rw told refl in
          has_written_of_eq _ _ _ _ _ (sym (more ∙ ap (λ l. before ++ l) word)) (has_written_append _ _ _ _ _ _ (c.loop-channel.invariant p) (search rules))
      | else-in_set w ↦
          let told : in_set s n ≡ false = search rules in
          let word : f n ≡ [] = rw told refl in
          has_written_of_eq _ _ _ _ _ (sym (more ∙ ap (λ l. before ++ l) word ∙ append-nil before)) (search rules)
    ]

pub returns-clause-writes : goal.returns-clause-writes
returns-clause-writes g c p k =
    let all : c.loop-channel.channel-counter ≡ 32 = omega (arith, c.loop-channel.auto.channel-counter-end, c.loop-channel-test.false) in
    has_written_of_eq _ _ _ _ _ (ap (λ n. flat_map (channel_text c.args.self.now.0) (range_with_len 0 n)) all) (c.loop-channel.invariant p)
