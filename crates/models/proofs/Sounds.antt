-- What the memory of a model stands for.
use Rattle.std.proofs.Common.{◌≡◌, ℕ, zero, suc, ◌<◌, true, cond, eqb, List, Option, map, None, Ok, Err, refl, ap, ◌∙◌, arith}
use Rattle.std.specs.List.{AllByRecursion}
use Rattle.std.proofs.lemmas.Bool.{eqb-true, lt-ltb}
use Rattle.commands.specs.ByteLists.{Bytes}
use Rattle.commands.specs.Trees.{Behaviour}
use Rattle.heads.specs.Checked.{Checked}
use Rattle.files.specs.Files.{Summary, check_file, levels}
use Rattle.parts.specs.Parts.{behaviour_in}
use Rattle.admission.proofs.Oks.{both_true}
use Rattle.arrivals.specs.Climbing.{arrival_in}
use Rattle.arrivals.proofs.Lookups.{table_laws}
use Rattle.listing.specs.Offers.{offer_of, listed, Holdable, ArrivesBy}
use Rattle.listing.proofs.Seen.{listed_same}
use Rattle.steps.specs.Steps.{offers, offers_from, steps, steps_of}
use Rattle.tables.specs.declared.table.Table.{Table}
use Rattle.tables.specs.Offered.{SoundTable}
use Rattle.tables.specs.Views.{processes_in}
use Rattle.tables.proofs.Admitted.{file_reads}
use Rattle.models.specs.declared.model.Model.{Model}
use Rattle.models.specs.Sound.{found}
use Rattle.models.specs.Views.{bytes_of, model_of}

pub found_ok : (r : Checked Summary) (s : Summary) → found r s ≡ true → r ≡ Ok s
found_ok (Ok u) s h =
    let p = both_true (eqb u.0 s.0) _ h in
    let q = both_true (eqb u.1 s.1) _ p.1 in
    let a = eqb-true u.0 s.0 p.0 in
    let b = eqb-true u.1 s.1 q.0 in
    let d = eqb-true u.2 s.2 q.1 in
    (λ i. Ok (a i, b i, d i))
found_ok (Err x) s h = absurd (let z : ◌≡◌ {A = ℕ} 0 1 = cc in omega arith)

module _ (m : Model) where
  abbrev summary_of : Summary
  summary_of = (m.classes, m.behaviour, m.count)

  pub admitted_as : 0 < m.count → check_file (bytes_of m) ≡ Ok summary_of
  admitted_as h = found_ok (check_file (bytes_of m)) summary_of (m.admitted h)

  pub table_sound : SoundTable (bytes_of m) m.classes m.table m.count
  table_sound = record {
    each = λ p l. record { admitted = (summary_of, admitted_as (omega (arith, l)), refl); sound = m.kept p l };
    few = m.few;
  }

  arrives : Bytes (bytes_of m) → 0 < m.count → ArrivesBy m.arrivals.channels (behaviour_in levels (bytes_of m) m.behaviour)
  arrives bs h =
      let f = bytes_of m in
      let b = behaviour_in levels f m.behaviour in
      let kept = (file_reads f summary_of bs (admitted_as h)).conditions.behaviour_kept in
      record {
        meets = λ p q c lp lq lc. ap (λ t. cond t (arrival_in m.arrivals.channels p q c) None) (lt-ltb q 8 lq) ∙ ap (λ t. arrival_in t p q c) (m.travels h) ∙ table_laws.meeting _ b p q c kept lp lq lc;
        passes = λ p c lp lc. ap (λ t. arrival_in t p 8 c) (m.travels h) ∙ table_laws.outside _ b p c kept lp lc;
      }

list_is : (ch : List (Option ℕ)) (b : Behaviour) (f : List ℕ) (t : Table) (count : ℕ) → (0 < count → ArrivesBy ch b) → AllByRecursion Holdable (offers_from 0 (processes_in f t count)) → listed ch (map offer_of (offers_from 0 (processes_in f t count))) ≡ steps_of b (offers_from 0 (processes_in f t count))
unfolding listed steps_of
list_is ch b f t zero a h = refl
list_is ch b f t (suc n) a h = listed_same b ch (a (omega arith)) (offers_from 0 (processes_in f t (suc n))) h

pub lists_steps : (m : Model) → Bytes (bytes_of m) → AllByRecursion Holdable (offers (model_of m)) → listed m.arrivals.channels (map offer_of (offers (model_of m))) ≡ steps (model_of m)
lists_steps m bs h = list_is m.arrivals.channels _ (bytes_of m) m.table m.count (arrives m bs) h
