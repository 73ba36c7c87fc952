use Rattle.std.proofs.Common.{sym, subst}
use Rattle.processes.specs.Evaluation.{values_of}
use Rattle.processes.specs.Stores.{process_stores}
use Rattle.processes.proofs.Statements.{standing_ready}
use Rattle.processes.proofs.Stores.{Storing}
use Rattle.processes.proofs.finding.front_of_places.Goals as goal

pub returns-clause-stores : goal.returns-clause-stores
returns-clause-stores c ks ds ss h =
    let r = standing_ready c.args.file.now _ ks ds c.in_ok-at.at c.in_ok-at.rest ss h c.in_ok-at.ensures in
    subst (λ left. Storing c.front_at.result (process_stores (values_of c.args.variables.now) left c.args.number)) (sym r.2) (c.front_at.ensures.stores r.0 r.1 r.3)
