use Rattle.std.proofs.Common.{◌≡◌, ◌∙◌, ap, sym, subst, true, false}
use Rattle.commands.specs.Sets.{in_set}
use Rattle.arrivals.specs.Bytes.{channel_of}
use Rattle.arrivals.specs.Filling.{past, KeepsBytes}
use Rattle.arrivals.proofs.ByteForms.{hide_stops, hide_passes, rename_turns, rename_passes}
use Rattle.arrivals.proofs.filling.past.Goals as goal

pub returns-then-in_set : goal.returns-then-in_set
returns-then-in_set c =
    let h : in_set c.in-Hide.set c.args.below ≡ true = cc in
    hide_stops c.in-Hide.set c.args.below h ∙ sym (ap (λ k. past k (channel_of c.args.below)) c.in-Hide.is)

pub returns-else-in_set : goal.returns-else-in_set
returns-else-in_set c =
    let h : in_set c.in-Hide.set c.args.below ≡ false = cc in
    hide_passes c.in-Hide.set c.args.below h ∙ sym (ap (λ k. past k (channel_of c.args.below)) c.in-Hide.is)

pub returns-then-below-from : goal.returns-then-below-from
returns-then-below-from c =
    let h = subst KeepsBytes c.in-Rename.is c.requires in
    rename_turns c.in-Rename.from c.in-Rename.to c.args.below h.0 h.1 c.if-below-from.true ∙ sym (ap (λ k. past k (channel_of c.args.below)) c.in-Rename.is)

pub returns-else-below-from : goal.returns-else-below-from
returns-else-below-from c =
    rename_passes c.in-Rename.from c.in-Rename.to c.args.below c.if-below-from.false ∙ sym (ap (λ k. past k (channel_of c.args.below)) c.in-Rename.is)
