use Rattle.models.specs.Views.{model_of}
use Rattle.engine.proofs.Promising.{reached_holds}
use Rattle.engine.proofs.laws.holds_from.Goals as goal

pub returns : goal.returns
returns c = reached_holds (model_of c.args.engine.now.model) c.args.engine.now.reached
