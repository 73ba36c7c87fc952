use Rattle.std.proofs.Common.{sym, ap, ◌∙◌}
use Rattle.processes.specs.Evaluation.{values_of}
use Rattle.steps.specs.Models.{Process}
use Rattle.models.proofs.Numbering.{process_there, process_absent}
use Rattle.models.proofs.model.Model.variables.Goals as goal

pub returns-then-p-self : goal.returns-then-p-self
returns-then-p-self c = sym (ap (λ (one : Process). one.variables) (process_absent c.args.self.now c.args.p c.if-p-self.true))

pub returns : goal.returns
returns c = ap values_of c.rows_of.ensures ∙ sym (ap (λ (one : Process). one.variables) (process_there c.args.self.now c.args.p c.if-p-self.false))
