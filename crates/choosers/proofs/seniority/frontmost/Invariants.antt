use Rattle.std.proofs.Common.{◌≡◌, drop}
use Rattle.choosers.specs.Seniorities.{senior_step}
use Rattle.choosers.proofs.seniority.frontmost.Given as goal

abbrev pub invariant-loop-p : goal.invariant-loop-p
invariant-loop-p l = senior_step l.order l.closed ≡ senior_step (drop l.p-index l.order) l.closed
