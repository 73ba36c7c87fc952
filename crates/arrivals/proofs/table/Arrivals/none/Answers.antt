use Rattle.std.proofs.Common.{◌∙◌, ap}
use Rattle.arrivals.specs.Climbing.{arrival_in}
use Rattle.arrivals.proofs.ByteForms.{nones}
use Rattle.arrivals.proofs.Entries.{none_arrives}
use Rattle.arrivals.proofs.table.Arrivals.none.Goals as goal

pub returns : goal.returns
returns c = record { entries = nones 2304; empty = λ p to d. ap (λ x. arrival_in x p to d) (nones 2304) ∙ none_arrives p to d }
