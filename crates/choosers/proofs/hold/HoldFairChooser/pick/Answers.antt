use Rattle.choosers.specs.HoldsLemmas.{hold_fair}
use Rattle.choosers.proofs.Fairness.{fair_below, fair_lowers}
use Rattle.choosers.proofs.hold.HoldFairChooser.pick.Goals as goal

pub returns-clause-below : goal.returns-clause-below
returns-clause-below g c =
    let s = c.args.self.now in
    let f = hold_fair s.k _ _ _ s.left s.kept (g.met.F.FairChooser.fair s.below) s.ok in
    fair_below f c.args.closed.now c.advance.ensures.answer

pub returns-clause-lowers : goal.returns-clause-lowers
returns-clause-lowers g c =
    let s = c.args.self.now in
    let f = hold_fair s.k _ _ _ s.left s.kept (g.met.F.FairChooser.fair s.below) s.ok in
    fair_lowers f c.args.closed.now c.advance.ensures.answer c.advance.ensures.waits
