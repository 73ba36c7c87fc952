use Rattle.engine.proofs.Sampling.{samples}
use Rattle.engine.proofs.laws.samples.Goals as goal

pub returns : goal.returns
returns c = samples c.samples.ensures c.samples-2.ensures
