-- The table that an admitted file starts with.
use Rattle.std.proofs.Common.{◌≡◌, ℕ, zero, suc, ◌+◌, ◌<◌, ◌≤◌, true, false, eqb, ltb, ◌≢◌, ◌⊎◌, List, [], ◌∷◌, map, length, get_or, take, set, Some, Ok, sym, refl, ap, ◌∙◌, subst, inl, inr, add-zero, zero-add, arith, get_or-set_other, get_or-set_same}
use Rattle.std.specs.List.{range_with_len, slice_get, AllByRecursion}
use Rattle.std.proofs.lemmas.Bool.{lt-ltb, eq-eqb}
use Rattle.std.proofs.lemmas.Bool.Decides.{eqb_tells}
use Rattle.values.specs.declared.row.Row.{Row}
use Rattle.values.specs.Values.{kind_of}
use Rattle.commands.specs.ByteLists.{Bytes}
use Rattle.commands.specs.Bytes.{classes_size}
use Rattle.commands.specs.Stands.{BehaviourAt}
use Rattle.commands.specs.Trees.{Class, File}
use Rattle.heads.specs.Checked.{◌>>=◌}
use Rattle.files.specs.Files.{Summary, check_file}
use Rattle.admission.specs.Conditions.{processes}
use Rattle.admission.specs.Read.{tree_in, read}
use Rattle.admission.proofs.Rereading.{reads_trees}
use Rattle.processes.specs.Classes.{HasRoom}
use Rattle.processes.specs.Evaluation.{values_of}
use Rattle.processes.specs.Places.{places_of}
use Rattle.classes.specs.declared.fresh.Fresh.{Fresh}
use Rattle.classes.specs.Classes.{ClassOf}
use Rattle.classes.specs.Starts.{FreshOf}
use Rattle.steps.specs.Models.{class_numbered, fresh, start, process_classes}
use Rattle.steps.proofs.Staying.{class_kept, classes_exist, count}
use Rattle.tables.specs.declared.table.Entry.{Entry}
use Rattle.tables.specs.declared.table.Table.{Table}
use Rattle.tables.specs.Rows.{no_entry, rows_of}
use Rattle.tables.specs.Views.{left_in, view, process_in, processes_in, of_class, sound_entry}
use Rattle.tables.proofs.Admitted.{Reads, file_reads}
use Rattle.tables.proofs.Sound.{all_read, and_true, kept_sound}
use Rattle.models.specs.Sound.{found}
use Rattle.models.specs.Views.{start_of}
use Rattle.models.specs.Making.{FreshProcess, FreshTable}

all_at : (n : ℕ) (ks : List ℕ) (p : ℕ) → AllByRecursion (λ k. k < n) ks → p < length ks → get_or ks p 0 < n
all_at n [] p a h = absurd (omega arith)
all_at n (k ∷ ks) zero a h = a.0
all_at n (k ∷ ks) (suc p) a h = all_at n ks p a.1 (omega arith)

nth_there : (cs : List Class) (k : ℕ) → k < length cs → slice_get cs k ≡ Some (class_numbered cs k)
nth_there [] k h = absurd (omega arith)
nth_there (c ∷ cs) zero h = refl
nth_there (c ∷ cs) (suc k) h = nth_there cs k (omega arith)

-- an admitted file
module _ (f : List ℕ) (s : Summary) (bs : Bytes f) (h : check_file f ≡ Ok s) where
  abbrev tree : File
  tree = tree_in f s

  pub reads : Reads f s
  reads = file_reads f s bs h

  pub read_as : read f ≡ Ok tree
  read_as = ap (λ x. x >>= (λ u. Ok (tree_in f u))) h

  pub behaviour_there : BehaviourAt f s.1 tree.behaviour
  behaviour_there =
      let at : s.1 ≡ _ = ap (λ u. u.1) reads.summed in
      subst (λ p. BehaviourAt f p tree.behaviour) (sym at)
      (subst (λ g. BehaviourAt g (4 + classes_size tree.classes) tree.behaviour) reads.bytes (reads_trees.behaviour_stands tree reads.conditions))

  pub as_many : s.2 ≡ processes tree.behaviour
  as_many = ap (λ u. u.2) reads.summed

  pub class_count : s.0 ≡ length tree.classes
  class_count = ap (λ u. u.0) reads.summed

  pub few : s.2 ≤ 8
  few = omega (arith, as_many, reads.conditions.processes_few)

  -- the class of a process
  abbrev class_number : ℕ → ℕ
  class_number p = get_or (process_classes tree.behaviour) p 0

  pub class_exists : (p : ℕ) → p < s.2 → class_number p < length tree.classes
  class_exists p l = all_at (length tree.classes) (process_classes tree.behaviour) p (classes_exist _ tree.behaviour reads.conditions.behaviour_kept) (omega (arith, l, as_many, count tree.behaviour))

  pub class_there : (k : ℕ) → k < length tree.classes → ClassOf f k (class_numbered tree.classes k)
  class_there k l = (tree, read_as, nth_there tree.classes k l)

  -- a fresh process in the table
  module _ (t u : Table) (p k : ℕ) (x : Fresh) (e : Entry) where
    pub made_fresh : p < s.2 → k ≡ class_number p → FreshOf f (class_numbered tree.classes k) x
        → e ≡ record { class = k; variables = x.variables; left = x.left }
        → length t.entries ≡ 8 → length t.rows ≡ 8
        → u.entries ≡ set t.entries p e → u.rows ≡ set t.rows p x.rows
        → FreshProcess f s u p
    made_fresh l q fr i le lr eu ru =
        let c = class_numbered tree.classes k in
        let below : k < length tree.classes = subst (λ n. n < length tree.classes) (sym q) (class_exists p l) in
        let kept = class_kept tree.classes k reads.conditions.classes_kept below in
        let small : p < 8 = omega (arith, l, few) in
        let new : Entry = record { class = k; variables = x.variables; left = x.left } in
        let here : get_or u.entries p no_entry ≡ new = ap (λ es. get_or es p no_entry) eu ∙ get_or-set_same t.entries p e no_entry (omega (arith, le, small)) ∙ i in
        let row : get_or u.rows p [] ≡ x.rows = ap (λ rs. get_or rs p []) ru ∙ get_or-set_same t.rows p x.rows [] (omega (arith, lr, small)) in
        let rows : rows_of u p ≡ take x.variables x.rows = (λ j. take (here j).variables (row j)) in
        let room : HasRoom (c.statement ∷ []) = (omega (arith, kept.statement_deep), tt) in
        let values : values_of (rows_of u p) ≡ c.variables = ap values_of rows ∙ fr.values in
        let left : left_in f x.left ≡ c.statement ∷ [] = all_read f (places_of x.left) (c.statement ∷ []) fr.stands room in
        let good : of_class f c new (rows_of u p) ≡ true = kept_sound f c new (rows_of u p) (c.statement ∷ []) fr.count (ap (map kind_of) values) fr.stands (kept.statement_kept, tt) room in
        record {
          sound = subst (λ d. sound_entry f s.0 d (rows_of u p) ≡ true) (sym here) (and_true (ltb k s.0) _ (lt-ltb k s.0 (omega (arith, below, class_count))) good);
          is =
              (λ j. record { class = (here j).class; left = (ap (λ d. left_in f d.left) here ∙ left) j; variables = values j })
              ∙ ap (fresh tree.classes) q;
        }

    pub stays_fresh : (r : ℕ) (new : List Row) → r ≢ p → u.entries ≡ set t.entries p e → u.rows ≡ set t.rows p new → FreshProcess f s t r → FreshProcess f s u r
    stays_fresh r new ne eu ru fp =
        let here : get_or u.entries r no_entry ≡ get_or t.entries r no_entry = ap (λ es. get_or es r no_entry) eu ∙ get_or-set_other t.entries p r e no_entry ne in
        let row : get_or u.rows r [] ≡ get_or t.rows r [] = ap (λ rs. get_or rs r []) ru ∙ get_or-set_other t.rows p r new [] ne in
        record {
          sound = subst (λ (d : Entry × List Row). sound_entry f s.0 d.0 d.1 ≡ true) (λ i. (sym here i, take (sym here i).variables (sym row i))) fp.sound;
          is = (λ i. view f (here i) (take (here i).variables (row i))) ∙ fp.is;
        }

    pub one_more : FreshTable f s t p → FreshProcess f s u p → u.entries ≡ set t.entries p e → u.rows ≡ set t.rows p x.rows → FreshTable f s u (p + 1)
    one_more ft fp eu ru = record { each = λ r l. by r l (eqb_tells r p) }
      where
        by : (r : ℕ) → r < p + 1 → ((eqb r p ≡ true) × (r ≡ p)) ⊎ ((eqb r p ≡ false) × (r ≡ p → ⊥)) → FreshProcess f s u r
        by r l (inl w) = subst (FreshProcess f s u) (sym w.1) fp
        by r l (inr w) = stays_fresh r x.rows w.1 eu ru (ft.each r (omega (arith, l, w.1)))

-- processes by their numbers are those of a list
by_numbers : {A : Type 0} (g h : ℕ → A) (ks : List ℕ) (k : ℕ) → ((i : ℕ) → i < length ks → g (k + i) ≡ h (get_or ks i 0)) → map g (range_with_len k (length ks)) ≡ map h ks
by_numbers g h [] k e = refl
by_numbers g h (x ∷ ks) k e =
    let first : g k ≡ h x = ap g (sym (add-zero k)) ∙ e 0 (omega arith) in
    let rest = by_numbers g h ks (k + 1) (λ i l. ap g (shift k i) ∙ e (suc i) (omega arith)) in
    (λ i. first i ∷ rest i)
  where
    shift : (k i : ℕ) → k + 1 + i ≡ k + suc i
    shift k i = omega arith

pub starts : (f : List ℕ) (s : Summary) (bs : Bytes f) (h : check_file f ≡ Ok s) (t : Table) → FreshTable f s t s.2 → processes_in f t s.2 ≡ (start (tree_in f s)).processes
starts f s bs h t ft =
    let ks = process_classes (tree_in f s).behaviour in
    let n : s.2 ≡ length ks = as_many f s bs h ∙ sym (count (tree_in f s).behaviour) in
    let all : map (process_in f t) (range_with_len 0 (length ks)) ≡ map (fresh (tree_in f s).classes) ks =
    by_numbers (process_in f t) (fresh (tree_in f s).classes) ks 0 (λ i l. ap (process_in f t) (zero-add i) ∙ (ft.each i (omega (arith, l, n))).is)
    in
    ap (λ m. map (process_in f t) (range_with_len 0 m)) n ∙ all

pub start_is : (f : List ℕ) (s : Summary) → check_file f ≡ Ok s → start_of f ≡ Ok (start (tree_in f s))
start_is f s h = ap (λ x. x >>= (λ u. Ok (tree_in f u)) >>= (λ t. Ok (start t))) h

pub found_self : (s : Summary) → found (Ok s) s ≡ true
found_self s = and_true (eqb s.0 s.0) _ (eq-eqb s.0 s.0 refl) (and_true (eqb s.1 s.1) (eqb s.2 s.2) (eq-eqb s.1 s.1 refl) (eq-eqb s.2 s.2 refl))
