use Rattle.values.proofs.Laws.{laws}
use Rattle.values.proofs.facts.laws.Goals as goal

pub returns : goal.returns
returns c = laws
