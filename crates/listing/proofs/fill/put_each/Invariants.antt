use Rattle.std.proofs.Common.{Option}
use Rattle.records.specs.declared.step.Step.{Step}
use Rattle.records.specs.Lists.{optional}
use Rattle.records.proofs.Filling.{Filling}
use Rattle.listing.specs.declared.offer.Offer.{Offer}
use Rattle.listing.specs.Offers.{Computes}
use Rattle.listing.proofs.fill.put_each.Given as goal

abbrev pub invariant-loop-o : goal.invariant-loop-o
invariant-loop-o g l =
    goal.F-IsAlwaysCallable g l.step_of
    × ((f : Offer → Option Step) → Computes (goal.F-post g l.step_of) f → Filling (λ o. optional (f o)) l.offers l.o-index l.initial.out l.out)
