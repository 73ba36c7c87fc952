-- Which values fit a step, from what the code finds.
use Rattle.std.proofs.Common.{◌≡◌, ℕ, ◌≤◌, Bool, true, false, cond, eqb, List, [], ◌∷◌, map, length, Some, None, sym, refl, ap, ◌∙◌, arith}
use Rattle.std.proofs.lemmas.Bool.{eqb-true, eq-eqb, ne_eqb}
use Rattle.values.specs.declared.kind.Kind.{Kind}
use Rattle.values.specs.declared.row.Row.{Row}
use Rattle.values.specs.Values.{Val, kind_of}
use Rattle.heads.specs.Exchanges.{same_kinds}
use Rattle.processes.specs.Evaluation.{values_of}
use Rattle.processes.specs.Fronts.{Action, internal, sends, receives, Front, front}
use Rattle.records.specs.declared.step.Step.{Step}
use Rattle.steps.specs.Models as steps
use Rattle.steps.specs.Taking.{process_numbered, offered_front, wanted, fits}
use Rattle.tables.specs.Exchanging.{wanted_by}
use Rattle.models.specs.declared.model.Model.{Model}
use Rattle.models.specs.Views.{model_of}
use Rattle.models.proofs.Numbering.{process_absent}

wanted_shape : (vs : List Val) (x : Front) → wanted vs (Some x) ≡ wanted_by vs x.does
wanted_shape vs x = by x.does
  where
    by : (a : Action) → wanted vs (Some (front x.number a x.variables x.leaves)) ≡ wanted_by vs a
    by internal = refl
    by (sends c m xs) = refl
    by (receives c m ws) = refl

-- no values where none are wanted
no_kinds : (values : List Row) → eqb (length values) 0 ≡ same_kinds [] (map kind_of (values_of values))
no_kinds [] = refl
no_kinds (r ∷ rows) = ne_eqb (length (r ∷ rows)) 0 (λ e. omega (arith, e))

pub no_values_few : (values : List Row) → eqb (length values) 0 ≡ true → length values ≤ 4
no_values_few values h = omega (arith, eqb-true (length values) 0 h)

module _ (m : steps.Model) (s : Step) (values : List Row) where
  abbrev one : steps.Process
  one = process_numbered m s.process

  abbrev asked : List Kind
  asked = cond (eqb s.kind 3) (wanted one.variables (offered_front one s.front)) []

  nothing_asked : asked ≡ [] → eqb (length values) 0 ≡ fits m s (values_of values)
  nothing_asked e = no_kinds values ∙ ap (λ ks. same_kinds ks (map kind_of (values_of values))) (sym e)

  pub fits_other : (s.kind ≡ 3 → ⊥) → eqb (length values) 0 ≡ fits m s (values_of values)
  fits_other h = nothing_asked (ap (λ t. cond t (wanted one.variables (offered_front one s.front)) []) (ne_eqb s.kind 3 h))

  pub fits_without : offered_front one s.front ≡ None → eqb (length values) 0 ≡ fits m s (values_of values)
  fits_without h = nothing_asked (ap (λ o. cond (eqb s.kind 3) (wanted one.variables o) []) h ∙ either (eqb s.kind 3))
    where
      either : (t : Bool) → cond t (wanted one.variables None) [] ≡ []
      either true = refl
      either false = refl

  pub fits_front : (y : Front) → s.kind ≡ 3 → offered_front one s.front ≡ Some y → same_kinds (wanted_by one.variables y.does) (map kind_of (values_of values)) ≡ fits m s (values_of values)
  fits_front y k h =
      ap (λ ks. same_kinds ks (map kind_of (values_of values)))
      (sym (ap (λ t. cond t (wanted one.variables (offered_front one s.front)) []) (eq-eqb s.kind 3 k) ∙ ap (wanted one.variables) h ∙ wanted_shape one.variables y))

pub absent_front : (m : Model) (p n : ℕ) → m.count ≤ p → offered_front (process_numbered (model_of m) p) n ≡ None
absent_front m p n h = ap (λ one. offered_front one n) (process_absent m p h)
