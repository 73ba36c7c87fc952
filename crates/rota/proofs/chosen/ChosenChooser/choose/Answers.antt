use Rattle.std.proofs.Common.{sym, ap, ◌∙◌}
use Rattle.choosers.specs.Meanings.{after}
use Rattle.rota.specs.Chosen.{meaning_of}
use Rattle.rota.specs.declared.chosen.Chosen.{Chosen}
use Rattle.rota.proofs.chosen.ChosenChooser.choose.Goals as goal

pub returns-in-HoldRotation-clause-later : goal.returns-in-HoldRotation-clause-later
returns-in-HoldRotation-clause-later c = c.choose-in-HoldRotation.ensures.later ∙ ap (λ (x : Chosen). after (meaning_of x) c.args.closed.now) (sym c.in-HoldRotation.is)

pub returns-in-HoldSeniority-clause-later : goal.returns-in-HoldSeniority-clause-later
returns-in-HoldSeniority-clause-later c = c.choose-in-HoldSeniority.ensures.later ∙ ap (λ (x : Chosen). after (meaning_of x) c.args.closed.now) (sym c.in-HoldSeniority.is)
