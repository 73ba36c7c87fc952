use Rattle.engine.proofs.Ruled.{runs_are_these}
use Rattle.engine.proofs.laws.runs.Goals as goal

pub returns : goal.returns
returns c = runs_are_these
