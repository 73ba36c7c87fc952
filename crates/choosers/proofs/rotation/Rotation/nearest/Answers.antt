use Rattle.std.proofs.Common.{◌≡◌, length, subst, arith}
use Rattle.choosers.proofs.Passes.{Best, best_all}
use Rattle.choosers.proofs.rotation.Rotation.nearest.Goals as goal

pub returns : goal.returns
returns c =
    let s = c.args.self.now in
    let q = c.args.closed.now in
    let l = c.loop-step in
    let e : l.step ≡ length q = omega arith in
    let b = best_all s.cursor l.best.step l.best.distance q s.ok (subst (λ n. Best s.cursor q n l.best.step l.best.distance) e l.invariant) in
    record { step = b.0; distance = b.1 }
