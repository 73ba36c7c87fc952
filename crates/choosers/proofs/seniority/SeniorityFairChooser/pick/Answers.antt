use Rattle.std.proofs.Common.{ap}
use Rattle.choosers.specs.Seniorities.{seniority_waits}
use Rattle.choosers.specs.SenioritiesLemmas.{seniority_fair}
use Rattle.choosers.proofs.Fairness.{fair_below, fair_lowers}
use Rattle.choosers.proofs.seniority.SeniorityFairChooser.pick.Goals as goal

pub returns-clause-below : goal.returns-clause-below
returns-clause-below c = let s = c.args.self.now in fair_below (seniority_fair s.order s.ok) c.args.closed.now c.advance.ensures.answer

pub returns-clause-lowers : goal.returns-clause-lowers
returns-clause-lowers c = let s = c.args.self.now in fair_lowers (seniority_fair s.order s.ok) c.args.closed.now c.advance.ensures.answer (ap seniority_waits c.advance.ensures.next)
