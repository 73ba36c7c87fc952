use Rattle.std.proofs.Common.{ap, ◌∙◌}
use Rattle.steps.specs.Taking.{is_in}
use Rattle.models.proofs.Listed.{any_is}
use Rattle.models.proofs.model.Model.lists.Goals as goal

pub returns : goal.returns
returns c = c.contains.ensures.value ∙ any_is c.args.step.now c.all.result.now ∙ ap (is_in c.args.step.now) (search (c.all.ensures, c.list-listed.ensures.list, c.list-listed.ensures.answer, c.new-table.ensures.room))
