use Rattle.listing.specs.Offers.{meetings}
use Rattle.records.proofs.Filling.{Filling}
use Rattle.listing.proofs.fill.put_meetings.Given as goal

abbrev pub invariant-loop-send : goal.invariant-loop-send
invariant-loop-send l = Filling (meetings l.arrivals.channels l.offers) l.offers l.send-index l.initial.out l.out
