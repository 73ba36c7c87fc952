use Rattle.processes.specs.Evaluation.{values_of}
use Rattle.steps.specs.Taking.{process_numbered}
use Rattle.models.specs.Views.{bytes_of, model_of}
use Rattle.models.proofs.Going.{unanswered, absent_stays, none_stays, still_sound, goes_on}
use Rattle.models.proofs.model.Model.go_on.Goals as goal

pub returns-then-p-self : goal.returns-then-p-self
returns-then-p-self c = absent_stays c.args.self.now c.args.p c.args.number (values_of c.args.got.now) c.if-p-self.true

pub invariant_of-self : goal.invariant_of-self
invariant_of-self c =
    let m = c.args.self.now in
    record {
      short = m.short;
      few = m.few;
      admitted = m.admitted;
      travels = m.travels;
      kept = still_sound m c.args.p c.args.number (values_of c.args.got.now) c.go_on.new.self c.in-Some.front c.if-p-self.false (c.in-Some.ensures.bytes c.if-p-self.false) c.in-Some.ensures.front c.requires c.go_on.ensures;
    }

pub returns-in-Some : goal.returns-in-Some
returns-in-Some c =
    let m = c.args.self.now in
    let e = goes_on m c.args.p c.args.number (values_of c.args.got.now) c.go_on.new.self c.in-Some.front c.if-p-self.false (c.in-Some.ensures.bytes c.if-p-self.false) c.in-Some.ensures.front c.requires c.go_on.ensures in
    (λ i. record { classes = (model_of m).classes; behaviour = (model_of m).behaviour; processes = e i })

pub returns-in_default : goal.returns-in_default
returns-in_default c = none_stays c.args.self.now c.args.p c.args.number (values_of c.args.got.now) (unanswered (bytes_of c.args.self.now) (process_numbered (model_of c.args.self.now) c.args.p).variables _ c.in_default.ensures.front)
