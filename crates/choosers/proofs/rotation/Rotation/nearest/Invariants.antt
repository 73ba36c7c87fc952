use Rattle.choosers.proofs.Passes.{Best}
use Rattle.choosers.proofs.rotation.Rotation.nearest.Given as goal

abbrev pub invariant-loop-step : goal.invariant-loop-step
invariant-loop-step l = Best l.self.cursor l.closed l.step l.best.step l.best.distance
