use Rattle.std.proofs.Common.{slice_index_or, sym, subst}
use Rattle.records.specs.Steps.{no_step}
use Rattle.choosers.specs.Seniorities.{Complete}
use Rattle.choosers.specs.SenioritiesLemmas.{complete_demoted}
use Rattle.choosers.proofs.seniority.Seniority.advance.Goals as goal

pub invariant_of-self : goal.invariant_of-self
invariant_of-self c = record { ok = subst Complete (sym c.demote_all.ensures) (complete_demoted (slice_index_or c.args.closed.now c.in-Some.i no_step) c.args.self.now.order c.args.self.now.ok) }
