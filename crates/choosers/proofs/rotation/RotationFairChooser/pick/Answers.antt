use Rattle.std.proofs.Common.{ap}
use Rattle.choosers.specs.Rotations.{rotation_waits}
use Rattle.choosers.specs.RotationsLemmas.{rotation_fair}
use Rattle.choosers.proofs.Fairness.{fair_below, fair_lowers}
use Rattle.choosers.proofs.rotation.RotationFairChooser.pick.Goals as goal

pub returns-clause-below : goal.returns-clause-below
returns-clause-below c = let s = c.args.self.now in fair_below (rotation_fair s.cursor s.ok) c.args.closed.now c.advance.ensures.answer

pub returns-clause-lowers : goal.returns-clause-lowers
returns-clause-lowers c = let s = c.args.self.now in fair_lowers (rotation_fair s.cursor s.ok) c.args.closed.now c.advance.ensures.answer (ap rotation_waits c.advance.ensures.next)
