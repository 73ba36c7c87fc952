use Rattle.steps.proofs.Laws.{step_laws}
use Rattle.steps.proofs.facts.laws.Goals as goal

pub returns : goal.returns
returns c = step_laws
