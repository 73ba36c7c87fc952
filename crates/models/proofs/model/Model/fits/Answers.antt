use Rattle.std.proofs.Common.{map, sym, ap, ◌∙◌}
use Rattle.values.specs.Values.{kind_of}
use Rattle.heads.specs.Exchanges.{same_kinds}
use Rattle.processes.specs.Evaluation.{values_of}
use Rattle.steps.specs.Taking.{process_numbered, offered_front}
use Rattle.tables.specs.Exchanging.{wanted_by}
use Rattle.tables.proofs.Gathering.{answered}
use Rattle.models.specs.Views.{bytes_of, model_of}
use Rattle.models.proofs.Fits.{fits_other, fits_without, fits_front, no_values_few, absent_front}
use Rattle.models.proofs.Going.{unanswered}
use Rattle.models.proofs.Numbering.{process_there}
use Rattle.models.proofs.model.Model.fits.Goals as goal
use Rattle.models.proofs.model.Model.fits.Goals.{then-step-ne-OUTSIDE_RECEIVE-via-then-step-ne-OUTSIDE_RECEIVE, then-step-ne-OUTSIDE_RECEIVE-via-else-step-ne-OUTSIDE_RECEIVE+then-step-self}

pub returns-then-step-ne-OUTSIDE_RECEIVE : goal.returns-then-step-ne-OUTSIDE_RECEIVE
returns-then-step-ne-OUTSIDE_RECEIVE c =
    let m = c.args.self.now in
    let s = c.args.step.now in
    let values = c.args.values.now in
    record {
      exact = elim c.then-step-ne-OUTSIDE_RECEIVE.branch [
        | then-step-ne-OUTSIDE_RECEIVE-via-then-step-ne-OUTSIDE_RECEIVE w ↦ c.is_empty.ensures ∙ fits_other (model_of m) s values w.if-step-ne-OUTSIDE_RECEIVE.true
        | then-step-ne-OUTSIDE_RECEIVE-via-else-step-ne-OUTSIDE_RECEIVE+then-step-self w ↦ c.is_empty.ensures ∙ fits_without (model_of m) s values (absent_front m s.process s.front w.if-step-self.true)
      ];
      short = λ h. no_values_few values (sym c.is_empty.ensures ∙ h);
    }

pub returns-in-Some : goal.returns-in-Some
returns-in-Some c =
    let m = c.args.self.now in
    let s = c.args.step.now in
    let values = c.args.values.now in
    let one = process_numbered (model_of m) s.process in
    let a = answered (bytes_of m) one.variables c.in-Some.front (offered_front one s.front) c.in-Some.ensures.front in
    let there = process_there m s.process c.if-step-self.false in
    record {
      exact =
          c.takes.ensures.exact
          ∙ (λ i. same_kinds (wanted_by (values_of (c.rows_of.ensures i)) (a.2.does i)) (map kind_of (values_of values)))
          ∙ ap (λ w. same_kinds (wanted_by w.variables a.0.does) (map kind_of (values_of values))) (sym there)
          ∙ fits_front (model_of m) s values a.0 c.if-step-ne-OUTSIDE_RECEIVE.false a.1;
      short = c.takes.ensures.short;
    }

pub returns-in-None : goal.returns-in-None
returns-in-None c =
    let m = c.args.self.now in
    let s = c.args.step.now in
    let values = c.args.values.now in
    record {
      exact = c.is_empty-in-None.ensures ∙ fits_without (model_of m) s values (unanswered (bytes_of m) (process_numbered (model_of m) s.process).variables _ c.in-None.ensures.front);
      short = λ h. no_values_few values (sym c.is_empty-in-None.ensures ∙ h);
    }
