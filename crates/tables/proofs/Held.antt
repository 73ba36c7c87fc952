-- The offers of a sound table can be held by the code.
use Rattle.std.proofs.Common.{◌≡◌, ℕ, zero, suc, ◌+◌, ◌*◌, ◌<◌, ◌≤◌, true, false, List, [], ◌∷◌, map, length, get_or, Some, refl, ap, subst, arith, length-append}
use lib.ListN.{length-map}
use Rattle.std.specs.List.{range_with_len, slice_get, AllByRecursion}
use Rattle.values.specs.declared.kind.Kind.{Kind}
use Rattle.values.specs.Values.{Val, kind_of}
use Rattle.commands.specs.ByteLists.{Bytes}
use Rattle.commands.specs.Trees.{Declaration}
use Rattle.heads.specs.Exchanges.{exchange}
use Rattle.admission.specs.Conditions.{HaveKinds, DeclarationKept}
use Rattle.processes.specs.Classes.{PermittedBy, FrontKept}
use Rattle.processes.specs.Evaluation.{values_of}
use Rattle.processes.specs.Fronts.{Action, internal, sends, receives, Front, process_fronts}
use Rattle.processes.proofs.Ascending.{ascend_short}
use Rattle.processes.proofs.Kept.{class_laws}
use Rattle.listing.specs.Offers.{HoldableAction, Holdable}
use Rattle.steps.specs.Steps.{Offer, offers_of, offers_from}
use Rattle.steps.proofs.Staying.{all_append}
use Rattle.tables.specs.declared.table.Table.{Table}
use Rattle.tables.specs.Offered.{SoundTable}
use Rattle.tables.specs.Rows.{no_entry, rows_of}
use Rattle.tables.specs.Views.{left_in, process_in, processes_in, class_in_file}
use Rattle.tables.proofs.Admitted.{good}
use Rattle.tables.proofs.Gathering.{eight}
use Rattle.tables.proofs.Moved.{kinds_of_class}

-- what is declared keeps the bounds of declarations
declared_kept : (ds : List Declaration) (d : Declaration) (i : ℕ) → AllByRecursion DeclarationKept ds → slice_get ds i ≡ Some d → DeclarationKept d
declared_kept [] d i a h = absurd (let z : ◌≡◌ {A = ℕ} 0 1 = cc in omega arith)
declared_kept (e ∷ ds) d zero a h = let s : e ≡ d = cc in subst DeclarationKept s a.0
declared_kept (e ∷ ds) d (suc i) a h = declared_kept ds d i a.1 h

as_many : (ks : List Kind) (ws : List ℕ) (js : List Kind) → HaveKinds ks ws js → length ws ≡ length js
as_many ks [] [] h = refl
as_many ks [] (j ∷ js) h = absurd h
as_many ks (w ∷ ws) [] h = absurd h
as_many ks (w ∷ ws) (j ∷ js) h = ap suc (as_many ks ws js h.1)

action_held : (ks : List Kind) (ds : List Declaration) (a : Action) → AllByRecursion DeclarationKept ds → PermittedBy ks ds a → HoldableAction a
action_held ks ds internal k p = tt
action_held ks ds (sends c m xs) k p =
    let d = (declared_kept ds (exchange false c m (map kind_of xs)) p.0 k p.1).exchange_kept in
    (d.channel_kept, omega (arith, d.count_kept, length-map xs kind_of))
action_held ks ds (receives c m ws) k p =
    let d = (declared_kept ds (exchange true c m p.0) p.2.0 k p.2.1).exchange_kept in
    (d.channel_kept, omega (arith, d.count_kept, as_many ks ws p.0 p.1))

fronts_held : (ks : List Kind) (ds : List Declaration) (vs : List Val) (p : ℕ) (fs : List Front) → p < 8 → AllByRecursion DeclarationKept ds → AllByRecursion (FrontKept ks ds) fs → AllByRecursion Holdable (map (λ x. record { process = p; variables = vs; front = x }) fs)
fronts_held ks ds vs p [] l k a = tt
fronts_held ks ds vs p (x ∷ fs) l k a = (record { numbered = l; action = action_held ks ds x.does k a.0.permitted }, fronts_held ks ds vs p fs l k a.1)

module _ (f : List ℕ) (n : ℕ) (bs : Bytes f) (t : Table) (count : ℕ) (sound : SoundTable f n t count) where
  process_held : (p : ℕ) → p < count → AllByRecursion Holdable (offers_of p (process_in f t p))
  process_held p l =
      let e = get_or t.entries p no_entry in
      let rows = rows_of t p in
      let g = good f n e rows bs (sound.each p l) in
      let c = class_in_file f n e.class in
      let s = g.of_its_class.stands in
      let all = class_laws.statements_kept (kinds_of_class f n e) c.declarations (values_of rows) (left_in f e.left) g.of_its_class.same_kinds_of s.kept s.room in
      fronts_held (kinds_of_class f n e) c.declarations (values_of rows) p (process_fronts (values_of rows) (left_in f e.left)) (omega (arith, l, sound.few)) g.class_kept.declarations_kept all

  process_few : (p : ℕ) → p < count → length (offers_of p (process_in f t p)) ≤ 8
  process_few p l =
      let one = process_in f t p in
      let g = good f n (get_or t.entries p no_entry) (rows_of t p) bs (sound.each p l) in
      let fs = process_fronts one.variables one.left in
      let offer : Front → Offer = λ x. record { process = p; variables = one.variables; front = x } in
      omega (arith, ascend_short 0 8 fs (eight _ _ one.variables one.left g.of_its_class.stands.kept), length-map fs offer)

  some_few : (k m : ℕ) → k + m ≤ count → length (offers_from k (map (process_in f t) (range_with_len k m))) ≤ 8 * m
  some_few k zero h = omega arith
  some_few k (suc m) h =
      simp length-append (omega (arith, process_few k (omega (arith, h)), some_few (k + 1) m (omega (arith, h))))

  pub table_few : length (offers_from 0 (processes_in f t count)) ≤ 64
  table_few = omega (arith, some_few 0 count (omega arith), sound.few)

  some_held : (k m : ℕ) → k + m ≤ count → AllByRecursion Holdable (offers_from k (map (process_in f t) (range_with_len k m)))
  some_held k zero h = tt
  some_held k (suc m) h = all_append Holdable (offers_of k (process_in f t k)) _ (process_held k (omega (arith, h))) (some_held (k + 1) m (omega (arith, h)))

  pub table_held : AllByRecursion Holdable (offers_from 0 (processes_in f t count))
  table_held = some_held 0 count (omega arith)
