-- The walk to a class of a number.
use Rattle.std.proofs.Common.{◌≡◌, ℕ, zero, suc, ◌+◌, ◌-◌, ◌<◌, ◌≤◌, List, [], ◌∷◌, map, length, take, Some, Ok, sym, refl, ap, ◌∙◌, subst, arith}
use Rattle.std.proofs.lemmas.List.{length-take-le}
use Rattle.std.specs.List.{slice_get, AllByRecursion}
use Rattle.values.specs.Rows.{row_of, value_of_row}
use Rattle.commands.specs.ByteLists.{Bytes}
use Rattle.commands.specs.Bytes.{head_size, class_size}
use Rattle.commands.specs.Stands.{StmtAt}
use Rattle.commands.specs.Trees.{Class, File}
use Rattle.commands.proofs.Cuts.{stmt_uncut}
use Rattle.heads.specs.Heads.{byte, word_at, class_declarations, declarations_at, declarations_place, statement_place}
use Rattle.admission.specs.Conditions.{ClassKept, Conditions}
use Rattle.admission.specs.Read.{read}
use Rattle.admission.proofs.ClassParts.{ClassAt, ClassesAt, head_long}
use Rattle.admission.proofs.FileParts.{FileAt}
use Rattle.admission.proofs.Rereading.{reads_trees}
use Rattle.admission.proofs.Supplied.{stands}
use Rattle.classes.specs.Classes.{ClassOf, Begins, rows_at}
use Rattle.classes.proofs.Cutting.{byte_cut, rows_cut, declarations_cut, values_rows, rows_of_values}

-- the tree of an admitted file stands in it and keeps the conditions
pub tree_stands : (f : List ℕ) (t : File) → Bytes f → read f ≡ Ok t → FileAt f t × Conditions t
tree_stands f t small e =
    let p = reads_trees.read_tree f t small e in
    (subst (λ g. FileAt g t) p.1 (stands t p.0), p.0)

-- a file has the classes of its numbers
some_class : (cs : List Class) (k : ℕ) → k < length cs → (c : Class) × (slice_get cs k ≡ Some c)
some_class [] k l = absurd (omega arith)
some_class (c ∷ cs) zero l = (c, refl)
some_class (c ∷ cs) (suc k) l = some_class cs k (omega arith)

pub class_known : (f : List ℕ) (t : File) (k : ℕ) → read f ≡ Ok t → k < length t.classes → (c : Class) × ClassOf f k c
class_known f t k e l = let p = some_class t.classes k l in (p.0, (t, e, p.1))

-- the classes from a place on, of which the one of a number is this
pub record Ahead (f : List ℕ) (at n : ℕ) (c : Class) : Type 0 where
  pub classes : List Class
  pub stand : ClassesAt f at classes
  pub numbered : slice_get classes n ≡ Some c

pub ahead_start : (f : List ℕ) (k : ℕ) (c : Class) → Bytes f → ClassOf f k c → Ahead f 4 k c
ahead_start f k c small h = record { classes = h.0.classes; stand = (tree_stands f h.0 small h.1).0.classes; numbered = h.2 }

none_some : (n : ℕ) (c : Class) → slice_get {X = Class} [] n ≡ Some c → ⊥
none_some n c e = let z : ◌≡◌ {A = ℕ} 0 1 = cc in omega arith

-- a class stands there
here : (f : List ℕ) (at n : ℕ) (c : Class) (cs : List Class) → ClassesAt f at cs → slice_get cs n ≡ Some c → (d : Class) × ClassAt f at d
here f at n c [] s e = absurd (none_some n c e)
here f at n c (d ∷ cs) s e = (d, s.0)

pub ahead_within : (f : List ℕ) (at n : ℕ) (c : Class) → Ahead f at n c → at + 2 ≤ length f
ahead_within f at n c h = let p = here f at n c h.classes h.stand h.numbered in omega (arith, p.1.within)

next : (f : List ℕ) (at end n : ℕ) (c : Class) (cs : List Class) → end ≡ at + 2 + word_at f at → ClassesAt f at cs → slice_get cs (suc n) ≡ Some c → Ahead f end n c
next f at end n c [] b s e = absurd (none_some n c e)
next f at end n c (d ∷ cs) b s e =
    let same : at + class_size d ≡ end = omega (arith, s.0.long, b) in
    record { classes = cs; stand = subst (λ p. ClassesAt f p cs) same s.1; numbered = e }

pub ahead_next : (f : List ℕ) (at end k i : ℕ) (c : Class) → end ≡ at + 2 + word_at f at → i < k → Ahead f at (k - i) c → Ahead f end (k - (i + 1)) c
ahead_next f at end k i c b less h =
    let one : k - i ≡ suc (k - (i + 1)) = omega arith in
    next f at end (k - (i + 1)) c h.classes b h.stand (subst (λ n. slice_get h.classes n ≡ Some c) one h.numbered)

found : (f : List ℕ) (at : ℕ) (c : Class) (cs : List Class) → ClassesAt f at cs → slice_get cs 0 ≡ Some c → ClassAt f at c
found f at c [] s e = absurd (none_some 0 c e)
found f at c (d ∷ cs) s e = let same : d ≡ c = cc in subst (ClassAt f at) same s.0

pub ahead_done : (f : List ℕ) (at k i : ℕ) (c : Class) → k ≤ i → Ahead f at (k - i) c → ClassAt f at c
ahead_done f at k i c past h =
    let none : k - i ≡ 0 = omega arith in
    found f at c h.classes h.stand (subst (λ n. slice_get h.classes n ≡ Some c) none h.numbered)

-- an admitted file is short, and its classes keep the conditions
pub file_short : (f : List ℕ) (k : ℕ) (c : Class) → Bytes f → ClassOf f k c → length f ≤ 4096
file_short f k c small h = (tree_stands f h.0 small h.1).0.header.most

one_kept : (n : ℕ) (c : Class) (cs : List Class) → AllByRecursion ClassKept cs → slice_get cs n ≡ Some c → ClassKept c
one_kept n c [] k e = absurd (none_some n c e)
one_kept zero c (d ∷ cs) k e = let same : d ≡ c = cc in subst ClassKept same k.0
one_kept (suc n) c (d ∷ cs) k e = one_kept n c cs k.1 e

pub class_kept : (f : List ℕ) (k : ℕ) (c : Class) → Bytes f → ClassOf f k c → ClassKept c
class_kept f k c small h = one_kept k c h.0.classes (tree_stands f h.0 small h.1).1.classes_kept h.2

-- a class that stands at a place of the file begins behind its length
pub class_begins : (f : List ℕ) (at : ℕ) (c : Class) → Bytes f → length f ≤ 4096 → ClassAt f at c → Begins f (at + 2) c
class_begins f at c small short h =
    let end = at + class_size c in
    let g = take end f in
    let a = at + 2 in
    let b = h.body in
    let long : length g ≡ end = length-take-le end f h.within in
    let first : byte g a ≡ byte f a = byte_cut f end a (omega (arith, b.head.within, long)) in
    let place : declarations_place g a ≡ declarations_place f a = omega (arith, first) in
    let second : byte g (declarations_place g a) ≡ byte f (declarations_place f a) = byte_cut f end (declarations_place g a) (omega (arith, b.head.within, long)) ∙ ap (byte f) place in
    let rows : rows_at (byte f a) f (a + 1) ≡ rows_at (byte g a) g (a + 1) = ap (λ n. rows_at n f (a + 1)) (sym first) ∙ sym (rows_cut f end (byte g a) (a + 1) (omega (arith, b.head.within, long))) in
    let ds : class_declarations f a ≡ class_declarations g a =
    (λ i. declarations_at (sym second i) f (sym place i + 1))
    ∙ sym (declarations_cut f end (byte g (declarations_place g a)) (declarations_place g a + 1) (omega (arith, b.head.within, long)) b.head.declarations) in
    let stop : statement_place f a ≡ a + head_size c = omega (arith, first, second, head_long g a c b.variables b.declarations) in
    record {
      variables = sym (values_rows (byte f a) f (a + 1)) ∙ ap (map value_of_row) rows ∙ values_rows (byte g a) g (a + 1) ∙ b.variables;
      rows = rows ∙ sym (rows_of_values (byte g a) g (a + 1) b.head.variables) ∙ ap (map row_of) b.variables;
      declarations = ds ∙ b.declarations;
      statement = subst (λ p. StmtAt f p c.statement) (sym stop) (stmt_uncut c.statement f (a + head_size c) end small b.statement);
      within = omega (arith, stop, h.within);
      short = short;
    }
