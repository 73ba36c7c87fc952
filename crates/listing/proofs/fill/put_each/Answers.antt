use Rattle.std.proofs.Common.{sym, subst}
use Rattle.records.specs.Lists.{Room, optional}
use Rattle.records.proofs.Filling.{fill_fits}
use Rattle.listing.proofs.fill.put_each.Goals as goal

pub append_some-requires : goal.append_some-requires
append_some-requires g c =
    let f = c.requires.room.0 in
    let says = c.requires.room.1 in
    subst (λ s. Room c.loop-o.out (optional s)) (sym (says _ _ c.step_of.ensures)) (fill_fits (λ o. optional (f o)) _ _ _ _ _ (c.loop-o.invariant.1 f says) c.loop-o-test.true c.requires.room.2)
