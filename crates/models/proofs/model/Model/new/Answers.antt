use Rattle.std.proofs.Common.{refl}
use Rattle.parts.specs.Parts.{behaviour_in}
use Rattle.models.proofs.model.Model.new.Goals as goal

pub returns : goal.returns
unfolding behaviour_in
returns c = refl
