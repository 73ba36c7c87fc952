-- What a table stands for after a front of one process.
use Rattle.std.proofs.Common.{◌≡◌, ℕ, ◌<◌, Bool, true, false, cond, eqb, ltb, ◌≢◌, List, [], ◌∷◌, map, get_or, take, Some, sym, ap, ◌∙◌, subst, arith, get_or-set_other, get_or-set_same}
use Rattle.std.specs.List.{AllByRecursion}
use Rattle.std.proofs.lemmas.Bool.{lt-ltb}
use Rattle.std.proofs.lemmas.List.{take-map}
use Rattle.values.specs.declared.kind.Kind.{Kind}
use Rattle.values.specs.declared.row.Row.{Row}
use Rattle.values.specs.Rows.{value_of_row}
use Rattle.values.specs.Values.{Val, kind_of}
use Rattle.commands.specs.ByteLists.{Bytes}
use Rattle.processes.specs.declared.front.Front.{Front as FrontC}
use Rattle.processes.specs.Classes.{after, BringsOver, FrontKept}
use Rattle.processes.specs.Evaluation.{values_of}
use Rattle.processes.specs.Found.{action_of, own_work, front_numbered, StandsFor}
use Rattle.processes.specs.Fronts.{Front, process_fronts}
use Rattle.processes.specs.Places.{places_of}
use Rattle.processes.proofs.Kept.{class_laws}
use Rattle.steps.specs.Taking.{gone_on, offered_front}
use Rattle.tables.specs.declared.table.Entry.{Entry}
use Rattle.tables.specs.declared.table.Table.{Table}
use Rattle.tables.specs.Moving.{with_left, Advanced}
use Rattle.tables.specs.Offered.{SoundProcess}
use Rattle.tables.specs.Rows.{no_entry, rows_of}
use Rattle.tables.specs.Views.{left_in, view, process_in, class_in_file, of_class, sound_entry}
use Rattle.tables.proofs.Admitted.{Good, good}
use Rattle.tables.proofs.Sound.{all_read, and_true, kept_sound}
use Rattle.tables.proofs.Storing.{take_after, take_own_work}

-- what holds of all fronts holds of the one of a number
pub of_number : (P : Front → Type 0) (n : ℕ) (fs : List Front) (y : Front) → AllByRecursion P fs → front_numbered n fs ≡ Some y → P y
of_number P n [] y a h = absurd (let z : ◌≡◌ {A = ℕ} 0 1 = cc in omega arith)
of_number P n (x ∷ fs) y a h = by (λ k. of_number P n fs y a.1 k) (eqb x.number n) h
  where
    by : (front_numbered n fs ≡ Some y → P y) → (t : Bool) → cond t (Some x) (front_numbered n fs) ≡ Some y → P y
    by later true k = let e : x ≡ y = cc in subst P e a.0
    by later false k = later k

-- the kinds of a process's variables
abbrev pub kinds_of_class : List ℕ → ℕ → Entry → List Kind
kinds_of_class f n e = map kind_of (class_in_file f n e.class).variables

pub front_kept : (f : List ℕ) (n : ℕ) (e : Entry) (rows : List Row) (number : ℕ) (y : Front) → Good f n e rows → offered_front (view f e rows) number ≡ Some y → FrontKept (kinds_of_class f n e) (class_in_file f n e.class).declarations y
front_kept f n e rows number y g h =
    let c = class_in_file f n e.class in
    let s = g.of_its_class.stands in
    let all = class_laws.statements_kept (kinds_of_class f n e) c.declarations (values_of rows) (left_in f e.left) g.of_its_class.same_kinds_of s.kept s.room in
    of_number _ number (process_fronts (values_of rows) (left_in f e.left)) y all h

pub record Moves (f : List ℕ) (n : ℕ) (before after_it : Table) (p : ℕ) (y : Front) (got : List Val) : Type 0 where
  pub goes_on : process_in f after_it p ≡ gone_on (process_in f before p) (Some y) got
  pub others : (q : ℕ) → q ≢ p → process_in f after_it q ≡ process_in f before q
  pub sound_there : SoundProcess f n (get_or after_it.entries p no_entry) (rows_of after_it p)
  pub sound_others : (q : ℕ) → q ≢ p → SoundProcess f n (get_or before.entries q no_entry) (rows_of before q) → SoundProcess f n (get_or after_it.entries q no_entry) (rows_of after_it q)

module _ (f : List ℕ) (n : ℕ) (bs : Bytes f) (t u : Table) (p : ℕ) (x : FrontC) (y : Front) (got : List Val) (number : ℕ) where
  pub moves : p < 8
      → SoundProcess f n (get_or t.entries p no_entry) (rows_of t p)
      → offered_front (process_in f t p) number ≡ Some y
      → StandsFor f (values_of (rows_of t p)) x y
      → BringsOver (kinds_of_class f n (get_or t.entries p no_entry)) y.does got
      → Advanced t u p x got
      → Moves f n t u p y got
  moves lp sound offered stands brings adv =
      let e = get_or t.entries p no_entry in
      let c = class_in_file f n e.class in
      let g = good f n e (rows_of t p) bs sound in
      let fk = front_kept f n e (rows_of t p) number y g offered in
      let new = adv.rows.0 in
      let here : get_or u.entries p no_entry ≡ with_left e x.leaves = ap (λ es. get_or es p no_entry) adv.entries ∙ get_or-set_same t.entries p (with_left e x.leaves) no_entry (omega (arith, adv.eight_entries, lp)) in
      let row : get_or u.rows p [] ≡ new = ap (λ rs. get_or rs p []) adv.rows.1 ∙ get_or-set_same t.rows p new [] (omega (arith, adv.eight_rows, lp)) in
      let rows : rows_of u p ≡ take e.variables new = (λ i. take (here i).variables (row i)) in
      let values : values_of (rows_of u p) ≡ after y.variables y.does got =
      ap values_of rows
      ∙ sym (take-map value_of_row e.variables new)
      ∙ ap (take e.variables) adv.rows.2
      ∙ take_after e.variables (own_work (values_of (get_or t.rows p [])) x.action) (action_of x.action) got
      ∙ ap (λ vs. after vs (action_of x.action) got) (take_own_work e.variables (values_of (get_or t.rows p [])) x.action)
      ∙ ap (λ vs. after (own_work vs x.action) (action_of x.action) got) (take-map value_of_row e.variables (get_or t.rows p []))
      ∙ (λ i. after (stands.variables i) (stands.does i) got)
      in
      let left : left_in f x.leaves ≡ y.leaves = all_read f (places_of x.leaves) y.leaves stands.leaves fk.room in
      let kinds : map kind_of (values_of (rows_of u p)) ≡ map kind_of c.variables = ap (map kind_of) values ∙ fk.kinds got brings in
      let again : of_class f c (with_left e x.leaves) (rows_of u p) ≡ true =
      kept_sound f c (with_left e x.leaves) (rows_of u p) y.leaves g.of_its_class.count kinds stands.leaves fk.leaves_kept fk.room
      in
      let other : (q : ℕ) → q ≢ p → get_or u.entries q no_entry ≡ get_or t.entries q no_entry =
      λ q ne. ap (λ es. get_or es q no_entry) adv.entries ∙ get_or-set_other t.entries p q (with_left e x.leaves) no_entry ne
      in
      let other_row : (q : ℕ) → q ≢ p → get_or u.rows q [] ≡ get_or t.rows q [] =
      λ q ne. ap (λ rs. get_or rs q []) adv.rows.1 ∙ get_or-set_other t.rows p q new [] ne
      in
      record {
        goes_on = (λ i. record { class = (here i).class; left = (ap (λ d. left_in f d.left) here ∙ left) i; variables = values i });
        others = λ q ne i. view f (other q ne i) (take (other q ne i).variables (other_row q ne i));
        sound_there = record {
          admitted = sound.admitted;
          sound = subst (λ d. sound_entry f n d (rows_of u p) ≡ true) (sym here) (and_true (ltb e.class n) _ (lt-ltb e.class n g.class_below) again);
        };
        sound_others = λ q ne h. record {
          admitted = sound.admitted;
          sound = subst (λ (d : Entry × List Row). sound_entry f n d.0 d.1 ≡ true) (λ i. (sym (other q ne) i, take (sym (other q ne) i).variables (sym (other_row q ne) i))) h.sound;
        };
      }
