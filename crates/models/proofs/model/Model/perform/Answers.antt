use Rattle.std.proofs.Common.{◌≡◌, cond, List, map, sym, ap, ◌∙◌, subst}
use Rattle.std.proofs.lemmas.Bool.{eq-eqb, ne_eqb}
use Rattle.values.specs.declared.row.Row.{Row}
use Rattle.values.specs.Rows.{row_of}
use Rattle.values.specs.Values.{Val}
use Rattle.processes.specs.Evaluation.{values_of}
use Rattle.records.specs.declared.step.Step.{Step}
use Rattle.records.specs.Records.{record_of}
use Rattle.steps.specs.Models.{Model}
use Rattle.steps.specs.Taking.{with_moved, exchanged, after_step}
use Rattle.models.specs.Takes.{FrontTakes}
use Rattle.models.specs.Views.{model_of}
use Rattle.models.proofs.Fitting.{first_takes, partner_takes, all_back}
use Rattle.models.proofs.model.Model.perform.Goals as goal

-- the rows that were exchanged, as values
as_values : (rows kept : List Row) (vs : List Val) → rows ≡ kept → kept ≡ map row_of vs → values_of rows ≡ vs
as_values rows kept vs e d = ap values_of (e ∙ d) ∙ all_back vs

-- the model after a step with one process, and after a meeting
alone : (m : Model) (s : Step) (given : List Val) → (s.kind ≡ 1 → ⊥) → with_moved m s.process s.front (exchanged m s given) ≡ after_step m s given
alone m s given h = ap (λ t. cond t (with_moved (with_moved m s.process s.front (exchanged m s given)) s.partner s.partner_front (exchanged m s given)) (with_moved m s.process s.front (exchanged m s given))) (sym (ne_eqb s.kind 1 h))

together : (m : Model) (s : Step) (given : List Val) → s.kind ≡ 1 → with_moved (with_moved m s.process s.front (exchanged m s given)) s.partner s.partner_front (exchanged m s given) ≡ after_step m s given
together m s given h = ap (λ t. cond t (with_moved (with_moved m s.process s.front (exchanged m s given)) s.partner s.partner_front (exchanged m s given)) (with_moved m s.process s.front (exchanged m s given))) (sym (eq-eqb s.kind 1 h))

pub go_on-requires : goal.go_on-requires
go_on-requires c =
    let m = model_of c.args.self.now in
    let s = c.args.step.now in
    let given = values_of c.args.values.now in
    let e = as_values _ _ _ c.as_slice-2.ensures.items c.exchanged-exchanged.ensures in
    subst (FrontTakes m s.process s.front) (sym e) (first_takes m s given c.requires.free)

pub go_on-requires-then-step-eq-MEETING : goal.go_on-requires-then-step-eq-MEETING
go_on-requires-then-step-eq-MEETING c =
    let m = model_of c.args.self.now in
    let s = c.args.step.now in
    let given = values_of c.args.values.now in
    let e = as_values _ _ _ c.as_slice-2.ensures.items c.exchanged-exchanged.ensures in
    let d = as_values _ _ _ c.as_slice-then-step-eq-MEETING.ensures.items c.exchanged-exchanged.ensures in
    let moved : model_of c.go_on.new.self ≡ with_moved m s.process s.front (exchanged m s given) = c.go_on.ensures ∙ ap (with_moved m s.process s.front) e in
    subst (λ x. FrontTakes x s.partner s.partner_front (values_of c.as_slice-then-step-eq-MEETING.result.now)) (sym moved)
    (subst (FrontTakes (with_moved m s.process s.front (exchanged m s given)) s.partner s.partner_front) (sym d) (partner_takes m s given c.requires.free c.if-step-eq-MEETING.true))

pub returns-then-step-eq-MEETING : goal.returns-then-step-eq-MEETING
returns-then-step-eq-MEETING c =
    let m = model_of c.args.self.now in
    let s = c.args.step.now in
    let given = values_of c.args.values.now in
    let e = as_values _ _ _ c.as_slice-2.ensures.items c.exchanged-exchanged.ensures in
    let d = as_values _ _ _ c.as_slice-then-step-eq-MEETING.ensures.items c.exchanged-exchanged.ensures in
    let moved : model_of c.go_on.new.self ≡ with_moved m s.process s.front (exchanged m s given) = c.go_on.ensures ∙ ap (with_moved m s.process s.front) e in
    record {
      entered = ap (record_of s) (sym (c.as_slice.ensures.items ∙ c.exchanged-exchanged.ensures)) ∙ sym c.in-Some.ensures;
      after = c.go_on-then-step-eq-MEETING.ensures ∙ (λ i. with_moved (moved i) s.partner s.partner_front (d i)) ∙ together m s given c.if-step-eq-MEETING.true;
    }

pub returns-else-step-eq-MEETING : goal.returns-else-step-eq-MEETING
returns-else-step-eq-MEETING c =
    let m = model_of c.args.self.now in
    let s = c.args.step.now in
    let given = values_of c.args.values.now in
    let e = as_values _ _ _ c.as_slice-2.ensures.items c.exchanged-exchanged.ensures in
    record {
      entered = ap (record_of s) (sym (c.as_slice.ensures.items ∙ c.exchanged-exchanged.ensures)) ∙ sym c.in-Some.ensures;
      after = c.go_on.ensures ∙ ap (with_moved m s.process s.front) e ∙ alone m s given c.if-step-eq-MEETING.false;
    }
