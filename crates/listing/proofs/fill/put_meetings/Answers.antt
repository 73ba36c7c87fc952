use Rattle.std.proofs.Common.{get_or}
use Rattle.records.proofs.Filling.{fill_fits, fill_more}
use Rattle.listing.specs.declared.offer.Offer.{Offer}
use Rattle.listing.specs.declared.offer.Role.TheVariants.{Internal}
use Rattle.listing.specs.Offers.{meeting_step, meetings}
use Rattle.listing.proofs.fill.put_meetings.Goals as goal

-- what stands behind the offers' end
abbrev no_offer : Offer
no_offer = record { process = 0; front = 0; role = Internal }

pub put_each-requires-clause-room : goal.put_each-requires-clause-room
unfolding meetings
put_each-requires-clause-room c =
    let room = fill_fits (meetings c.args.arrivals.now.channels c.args.offers.now) _ _ _ no_offer _ c.loop-send.invariant c.loop-send-test.true c.requires in
    (meeting_step c.args.arrivals.now.channels (get_or c.args.offers.now c.loop-send.send-index no_offer), λ o s e. e, room)

pub loop-send-preserved : goal.loop-send-preserved
unfolding meetings
loop-send-preserved c =
    let room = fill_fits (meetings c.args.arrivals.now.channels c.args.offers.now) _ _ _ no_offer _ c.loop-send.invariant c.loop-send-test.true c.requires in
    let grown = c.put_each.ensures (meeting_step c.args.arrivals.now.channels (get_or c.args.offers.now c.loop-send.send-index no_offer)) (λ o s e. e) room in
    fill_more (meetings c.args.arrivals.now.channels c.args.offers.now) _ _ _ _ _ _ c.loop-send.invariant c.loop-send-test.true grown
