-- A model after a front of one process.
use Rattle.std.proofs.Common.{◌≡◌, ℕ, zero, suc, ◌+◌, ◌<◌, ◌≤◌, true, false, eqb, ◌≢◌, ◌⊎◌, List, [], ◌∷◌, map, get_or, set, Some, None, Option, sym, refl, ap, ◌∙◌, subst, inl, inr, arith}
use Rattle.std.specs.List.{range_with_len}
use Rattle.std.proofs.lemmas.List.FromFn.{length-map-range_with_len}
use Rattle.std.proofs.lemmas.List.{set_past}
use Rattle.std.proofs.lemmas.Bool.Decides.{eqb_tells}
use Rattle.values.specs.declared.kind.Kind.{Kind}
use Rattle.values.specs.Values.{Val, kind_of}
use Rattle.commands.specs.ByteLists.{Bytes}
use Rattle.commands.specs.Trees.{Declaration}
use Rattle.admission.specs.Conditions.{HaveKinds}
use Rattle.processes.specs.declared.front.Front.{Front as FrontC}
use Rattle.processes.specs.Classes.{PermittedBy, BringsOver}
use Rattle.processes.specs.Evaluation.{values_of}
use Rattle.processes.specs.Found.{Answers, StandsFor}
use Rattle.processes.specs.Fronts.{Action, internal, sends, receives, Front}
use Rattle.steps.specs.Taking.{ended, process_numbered, offered_front, gone_on, moved, with_moved}
use Rattle.steps.proofs.Permitted.{targets_have}
use Rattle.tables.specs.declared.table.Table.{Table}
use Rattle.tables.specs.Moving.{Advanced}
use Rattle.tables.specs.Rows.{no_entry, rows_of}
use Rattle.tables.specs.Views.{process_in, processes_in, sound_entry}
use Rattle.tables.proofs.Admitted.{good}
use Rattle.tables.proofs.Gathering.{answered}
use Rattle.tables.proofs.Moved.{Moves, moves, front_kept, kinds_of_class}
use Rattle.models.specs.declared.model.Model.{Model}
use Rattle.models.specs.Sound.{SoundProcesses}
use Rattle.models.specs.Takes.{Takes, FrontTakes}
use Rattle.models.specs.Views.{bytes_of, model_of}
use Rattle.models.proofs.Numbering.{process_there}
use Rattle.models.proofs.Sounds.{table_sound}

set_own : {A : Type 0} (xs : List A) (p : ℕ) (d : A) → set xs p (get_or xs p d) ≡ xs
set_own [] p d = refl
set_own (x ∷ xs) zero d = refl
set_own (x ∷ xs) (suc p) d = ap (λ ys. x ∷ ys) (set_own xs p d)

-- a list by numbers that changes at one of them
module _ {A : Type 0} (g h : ℕ → A) where
  all_same : (k n : ℕ) → ((q : ℕ) → k ≤ q → h q ≡ g q) → map h (range_with_len k n) ≡ map g (range_with_len k n)
  all_same k zero s = refl
  all_same k (suc n) s = let e = s k (omega arith) in let r = all_same (k + 1) n (λ q l. s q (omega (arith, l))) in (λ i. e i ∷ r i)

  one_set : (k n i p : ℕ) → k + i ≡ p → i < n → ((q : ℕ) → q ≢ p → h q ≡ g q) → map h (range_with_len k n) ≡ set (map g (range_with_len k n)) i (h p)
  one_set k zero i p e l s = absurd (omega arith)
  one_set k (suc n) zero p e l s =
      let at : k ≡ p = omega (arith, e) in
      let rest = all_same (k + 1) n (λ q m. s q (λ w. omega (arith, w, m, e))) in
      (λ j. ap h at j ∷ rest j)
  one_set k (suc n) (suc i) p e l s =
      let here = s k (λ w. omega (arith, w, e)) in
      let rest = one_set (k + 1) n i p (omega (arith, e)) (omega arith) s in
      (λ j. here j ∷ rest j)

pub unanswered : (f : List ℕ) (vs : List Val) (o : Option Front) → Answers f vs None o → o ≡ None
unanswered f vs None h = refl
unanswered f vs (Some y) h = absurd h

takes_brings : (vs : List Val) (ks : List Kind) (ds : List Declaration) (a : Action) (got : List Val) → map kind_of vs ≡ ks → PermittedBy ks ds a → Takes vs a got → BringsOver ks a got
takes_brings vs ks ds internal got e p t = tt
takes_brings vs ks ds (sends c m xs) got e p t = tt
takes_brings vs ks ds (receives c m ws) got e p t =
    let own = targets_have vs ws p.0 (subst (λ js. HaveKinds js ws p.0) (sym e) p.1) in
    subst (HaveKinds ks ws) (sym own ∙ t) p.1

module _ (m : Model) (p n : ℕ) (got : List Val) where
  -- no such process, or no such front
  pub absent_stays : m.count ≤ p → model_of m ≡ with_moved (model_of m) p n got
  absent_stays h =
      let e = set_past (model_of m).processes p (moved (process_numbered (model_of m) p) n got) (omega (arith, h, length-map-range_with_len (process_in (bytes_of m) m.table) 0 m.count)) in
      (λ i. record { classes = (model_of m).classes; behaviour = (model_of m).behaviour; processes = sym e i })

  pub none_stays : offered_front (process_numbered (model_of m) p) n ≡ None → model_of m ≡ with_moved (model_of m) p n got
  none_stays h =
      let one = process_numbered (model_of m) p in
      let e = ap (λ o. set (model_of m).processes p (gone_on one o got)) h ∙ set_own (model_of m).processes p ended in
      (λ i. record { classes = (model_of m).classes; behaviour = (model_of m).behaviour; processes = sym e i })

  -- the front takes its values
  module _ (u : Table) (x : FrontC) (below : p < m.count) (bs : Bytes (bytes_of m))
      (found : Answers (bytes_of m) (process_numbered (model_of m) p).variables (Some x) (offered_front (process_numbered (model_of m) p) n)) (takes : FrontTakes (model_of m) p n got) (adv : Advanced m.table u p x got) where
    abbrev y : Front
    y = (answered (bytes_of m) (process_numbered (model_of m) p).variables x (offered_front (process_numbered (model_of m) p) n) found).0

    there : offered_front (process_in (bytes_of m) m.table p) n ≡ Some y
    there = subst (λ one. offered_front one n ≡ Some y) (process_there m p below) (answered (bytes_of m) (process_numbered (model_of m) p).variables x (offered_front (process_numbered (model_of m) p) n) found).1

    it_moves : Moves (bytes_of m) m.classes m.table u p y got
    it_moves =
        let f = bytes_of m in
        let e = get_or m.table.entries p no_entry in
        let a = answered f (process_numbered (model_of m) p).variables x (offered_front (process_numbered (model_of m) p) n) found in
        let sound = (table_sound m).each p below in
        let g = good f m.classes e (rows_of m.table p) bs sound in
        let fk = front_kept f m.classes e (rows_of m.table p) n y g there in
        let t : Takes (values_of (rows_of m.table p)) y.does got = subst (λ one. Takes one.variables y.does got) (process_there m p below) (takes.takes y a.1) in
        let brings = takes_brings (values_of (rows_of m.table p)) (kinds_of_class f m.classes e) _ y.does got g.of_its_class.same_kinds_of fk.permitted t in
        moves f m.classes bs m.table u p x y got n (omega (arith, below, m.few)) sound there (subst (λ one. StandsFor f one.variables x y) (process_there m p below) a.2) brings adv

    pub still_sound : SoundProcesses (bytes_of m) m.classes u m.count
    still_sound q l = either (eqb_tells q p)
      where
        either : ((eqb q p ≡ true) × (q ≡ p)) ⊎ ((eqb q p ≡ false) × (q ≡ p → ⊥)) → sound_entry (bytes_of m) m.classes (get_or u.entries q no_entry) (rows_of u q) ≡ true
        either (inl h) = subst (λ k. sound_entry (bytes_of m) m.classes (get_or u.entries k no_entry) (rows_of u k) ≡ true) (sym h.1) it_moves.sound_there.sound
        either (inr h) = (it_moves.sound_others q h.1 ((table_sound m).each q l)).sound

    pub goes_on : processes_in (bytes_of m) u m.count ≡ (with_moved (model_of m) p n got).processes
    goes_on =
        let f = bytes_of m in
        let mv = it_moves in
        let e = one_set (process_in f m.table) (process_in f u) 0 m.count p p (omega arith) below mv.others in
        let a = answered f (process_numbered (model_of m) p).variables x (offered_front (process_numbered (model_of m) p) n) found in
        let one = process_in f m.table p in
        let o : gone_on one (Some y) got ≡ moved (process_numbered (model_of m) p) n got =
        (λ i. gone_on (sym (process_there m p below) i) (Some y) got) ∙ ap (λ o. gone_on (process_numbered (model_of m) p) o got) (sym a.1)
        in
        e ∙ ap (set (model_of m).processes p) (mv.goes_on ∙ o)
