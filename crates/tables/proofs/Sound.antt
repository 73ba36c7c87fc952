-- An entry that is sound stands for a process of its class, and what a front leaves is sound again.
use Rattle.std.proofs.Common.{◌≡◌, ℕ, ◌+◌, ◌≤◌, Bool, true, false, ◌&&◌, eqb, leb, List, [], ◌∷◌, map, length, is_ok, Ok, Err, sym, refl, ap, subst, arith}
use Rattle.std.specs.List.{AllByRecursion}
use Rattle.std.proofs.lemmas.Bool.{leb-true, le-leb, eqb-true, eq-eqb}
use Rattle.values.specs.declared.kind.Kind.{Kind}
use Rattle.values.specs.declared.row.Row.{Row}
use Rattle.values.specs.Values.{kind_of}
use Rattle.commands.specs.ByteLists.{Bytes}
use Rattle.commands.specs.Depths.{stmt_depth}
use Rattle.commands.specs.Stands.{StmtAt}
use Rattle.commands.specs.Trees.{Stmt, Class}
use Rattle.heads.specs.Checked.{Checked}
use Rattle.files.specs.Files.{levels}
use Rattle.heads.specs.Exchanges.{same_kinds}
use Rattle.files.specs.Statements.{check_statement}
use Rattle.parts.specs.Parts.{stmt_in}
use Rattle.parts.proofs.Reading.{stmt_reads}
use Rattle.admission.specs.Conditions.{StmtKept}
use Rattle.admission.proofs.Exchanges.{same_kinds_from, same_kinds_refl}
use Rattle.admission.proofs.Oks.{both_true}
use Rattle.admission.proofs.Stmts.{stmt_sound, stmt_complete}
use Rattle.processes.specs.Classes.{HasRoom}
use Rattle.processes.specs.Evaluation.{values_of}
use Rattle.processes.specs.Found.{StmtsAt, Standing}
use Rattle.processes.specs.Places.{places_of}
use Rattle.tables.specs.declared.table.Entry.{Entry}
use Rattle.tables.specs.Views.{left_in, passes, all_pass, have_room, of_class}

ok_of : {A : Type 0} (r : Checked A) → is_ok r ≡ true → (a : A) × (r ≡ Ok a)
ok_of (Ok a) h = (a, refl)
ok_of (Err x) h = absurd (let z : ◌≡◌ {A = ℕ} 0 1 = cc in omega arith)

pub and_true : (a b : Bool) → a ≡ true → b ≡ true → (a && b) ≡ true
and_true true b h k = k
and_true false b h k = h

abbrev kinds : Class → List Kind
kinds c = map kind_of c.variables

module _ (f : List ℕ) (c : Class) where
  -- what passes the check stands, and is kept
  place_stands : Bytes f → (q : ℕ) → passes f c q ≡ true → StmtAt f q (stmt_in levels f q) × StmtKept (kinds c) c.declarations (stmt_in levels f q)
  place_stands bs q h =
      let p = ok_of (check_statement levels f q (kinds c) c.declarations) h in
      let s = stmt_sound levels f bs q (kinds c) c.declarations p.0 p.1 in
      let e = stmt_reads s.0 levels f q s.1.stands s.1.deep in
      (subst (StmtAt f q) (sym e) s.1.stands, subst (StmtKept (kinds c) c.declarations) (sym e) s.1.kept)

  all_stand : Bytes f → (qs : List ℕ) → all_pass f c qs ≡ true → StmtsAt f qs (map (λ q. stmt_in levels f q) qs)
  all_stand bs [] h = tt
  all_stand bs (q ∷ qs) h = let p = both_true (passes f c q) (all_pass f c qs) h in ((place_stands bs q p.0).0, all_stand bs qs p.1)

  all_kept : Bytes f → (qs : List ℕ) → all_pass f c qs ≡ true → AllByRecursion (StmtKept (kinds c) c.declarations) (map (λ q. stmt_in levels f q) qs)
  all_kept bs [] h = tt
  all_kept bs (q ∷ qs) h = let p = both_true (passes f c q) (all_pass f c qs) h in ((place_stands bs q p.0).1, all_kept bs qs p.1)

  -- what is kept passes
  all_passing : (qs : List ℕ) (ss : List Stmt) → StmtsAt f qs ss → AllByRecursion (StmtKept (kinds c) c.declarations) ss → HasRoom ss → all_pass f c qs ≡ true
  all_passing [] [] a k r = refl
  all_passing [] (s ∷ ss) a k r = absurd a
  all_passing (q ∷ qs) [] a k r = absurd a
  all_passing (q ∷ qs) (s ∷ ss) a k r =
      let deep : stmt_depth s ≤ levels = omega (arith, r.0) in
      and_true (passes f c q) (all_pass f c qs) (ap is_ok (stmt_complete s levels f q (kinds c) c.declarations a.0 k.0 deep)) (all_passing qs ss a.1 k.1 r.1)

-- the statements at the places of what stands there
pub all_read : (f : List ℕ) (qs : List ℕ) (ss : List Stmt) → StmtsAt f qs ss → HasRoom ss → map (λ q. stmt_in levels f q) qs ≡ ss
all_read f [] [] a r = refl
all_read f [] (s ∷ ss) a r = absurd a
all_read f (q ∷ qs) [] a r = absurd a
all_read f (q ∷ qs) (s ∷ ss) a r =
    let deep : stmt_depth s ≤ levels = omega (arith, r.0) in
    let e = stmt_reads s levels f q a.0 deep in
    let d = all_read f qs ss a.1 r.1 in
    (λ i. e i ∷ d i)

room_from : (ss : List Stmt) → have_room ss ≡ true → HasRoom ss
room_from [] h = tt
room_from (s ∷ ss) h = let p = both_true (leb (length ss + stmt_depth s) 32) (have_room ss) h in (leb-true (length ss + stmt_depth s) 32 p.0, room_from ss p.1)

room_to : (ss : List Stmt) → HasRoom ss → have_room ss ≡ true
room_to [] r = refl
room_to (s ∷ ss) r = and_true (leb (length ss + stmt_depth s) 32) (have_room ss) (le-leb (length ss + stmt_depth s) 32 r.0) (room_to ss r.1)

-- what a sound entry of a class is
pub record OfClass (f : List ℕ) (c : Class) (e : Entry) (rows : List Row) : Type 0 where
  pub count : e.variables ≡ length c.variables
  pub same_kinds_of : map kind_of (values_of rows) ≡ kinds c
  pub stands : Standing f e.left (kinds c) c.declarations (left_in f e.left)

pub sound_stands : (f : List ℕ) (c : Class) (e : Entry) (rows : List Row) → Bytes f → length f ≤ 4096 → of_class f c e rows ≡ true → OfClass f c e rows
sound_stands f c e rows bs short h =
    let p = both_true (eqb e.variables (length c.variables)) _ h in
    let q = both_true (same_kinds (map kind_of (values_of rows)) (kinds c)) _ p.1 in
    let r = both_true (all_pass f c (places_of e.left)) (have_room (left_in f e.left)) q.1 in
    record {
      count = eqb-true e.variables (length c.variables) p.0;
      same_kinds_of = same_kinds_from (map kind_of (values_of rows)) (kinds c) q.0;
      stands = record { short = short; places = all_stand f c bs (places_of e.left) r.0; kept = all_kept f c bs (places_of e.left) r.0; room = room_from (left_in f e.left) r.1 };
    }

pub kept_sound : (f : List ℕ) (c : Class) (e : Entry) (rows : List Row) (ss : List Stmt) → e.variables ≡ length c.variables → map kind_of (values_of rows) ≡ kinds c → StmtsAt f (places_of e.left) ss → AllByRecursion (StmtKept (kinds c) c.declarations) ss → HasRoom ss → of_class f c e rows ≡ true
kept_sound f c e rows ss n k a h r =
    and_true (eqb e.variables (length c.variables)) _ (eq-eqb e.variables (length c.variables) n)
    (and_true (same_kinds (map kind_of (values_of rows)) (kinds c)) _ (subst (λ js. same_kinds js (kinds c) ≡ true) (sym k) (same_kinds_refl (kinds c)))
    (and_true (all_pass f c (places_of e.left)) (have_room (left_in f e.left)) (all_passing f c (places_of e.left) ss a h r)
    (subst (λ ts. have_room ts ≡ true) (sym (all_read f (places_of e.left) ss a r)) (room_to ss r))))
