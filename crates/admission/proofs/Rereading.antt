-- The tree of an admitted file is what is read from it.
use Rattle.std.proofs.Common.{◌≡◌, ℕ, ◌+◌, List, [], ◌∷◌, length, take, Ok, Err, Result, sym, refl, ap, ◌∙◌, subst, arith}
use Rattle.std.specs.List.{AllByRecursion}
use Rattle.commands.specs.ByteLists.{Bytes}
use Rattle.commands.specs.Bytes.{file_bytes, head_size, class_size, classes_size}
use Rattle.commands.specs.Trees.{Class, File}
use Rattle.commands.proofs.Cuts.{stmt_uncut}
use Rattle.answers.specs.declared.fault.LoadFault.{LoadFault}
use Rattle.files.specs.declared.file.Summary.{Summary}
use Rattle.heads.specs.Checked.{◌>>=◌}
use Rattle.files.specs.Files.{check_file, levels}
use Rattle.heads.specs.Heads.{word_at, statement_place}
use Rattle.files.specs.Summaries.{summed}
use Rattle.parts.specs.Parts.{stmt_in}
use Rattle.parts.proofs.Reading.{stmt_reads, behaviour_reads}
use Rattle.admission.specs.Admission.{summary}
use Rattle.admission.specs.Conditions.{Conditions, ClassKept}
use Rattle.admission.specs.Read.{body_in, class_in, classes_in, tree_in, read, StatementsStand, ReadsTrees, ReadAs}
use Rattle.admission.proofs.ClassParts.{BodyAt, ClassAt, ClassesAt, head_long}
use Rattle.admission.proofs.FileParts.{FileAt}
use Rattle.admission.proofs.Supplied.{admits, stands}

body_read : (f : List ℕ) (at : ℕ) (c : Class) → BodyAt f at c → ClassKept c → body_in f at ≡ c
body_read f at c b k =
    let place : statement_place f at ≡ at + head_size c = omega (arith, head_long f at c b.variables b.declarations) in
    let whole : stmt_in levels f (statement_place f at) ≡ c.statement = ap (stmt_in levels f) place ∙ stmt_reads c.statement levels f (at + head_size c) b.statement k.statement_deep in
    λ i. record { variables = b.variables i; declarations = b.declarations i; statement = whole i }

class_read : (f : List ℕ) (at : ℕ) (c : Class) → ClassAt f at c → ClassKept c → class_in f at ≡ c
class_read f at c h k =
    let stop : at + 2 + word_at f at ≡ at + class_size c = omega (arith, h.long) in
    ap (λ n. body_in (take n f) (at + 2)) stop ∙ body_read (take (at + class_size c) f) (at + 2) c h.body k

classes_read : (cs : List Class) (f : List ℕ) (at : ℕ) → ClassesAt f at cs → AllByRecursion ClassKept cs → classes_in (length cs) f at ≡ cs
classes_read [] f at h k = refl
classes_read (c ∷ cs) f at h k =
    let stop : at + 2 + word_at f at ≡ at + class_size c = omega (arith, h.0.long) in
    (λ i. class_read f at c h.0 k.0 i ∷ classes_in (length cs) f (stop i))
    ∙ ap (λ l. c ∷ l) (classes_read cs f (at + class_size c) h.1 k.1)

tree_of : (f : List ℕ) (t : File) → FileAt f t → Conditions t → tree_in f (summary t) ≡ t
tree_of f t h k =
    let cs = classes_read t.classes f 4 h.classes k.classes_kept in
    let b = behaviour_reads t.behaviour levels f (4 + classes_size t.classes) h.behaviour k.behaviour_deep in
    λ i. record { classes = cs i; behaviour = b i }

tree_read : (t : File) → Conditions t → read (file_bytes t) ≡ Ok t
tree_read t k = ap (λ r. r >>= (λ s. Ok (tree_in (file_bytes t) s))) (admits.complete t k) ∙ ap (λ x. Ok x) (tree_of (file_bytes t) t (stands t k) k)

read_from : (bs : List ℕ) (t : File) → Conditions t → file_bytes t ≡ bs → read bs ≡ Ok t
read_from bs t k e = ap read (sym e) ∙ tree_read t k

bound : {A B : Type 0} (r : Result A LoadFault) (g : A → B) (b : B) → (r >>= (λ a. Ok (g a))) ≡ Ok b → (a : A) × (r ≡ Ok a)
bound (Ok a) g b e = (a, refl)
bound (Err x) g b e = absurd (let z : ◌≡◌ {A = ℕ} 0 1 = cc in omega arith)

read_tree : (bs : List ℕ) (t : File) → Bytes bs → read bs ≡ Ok t → Conditions t × (file_bytes t ≡ bs)
read_tree bs t small e =
    let p = bound (check_file bs) (tree_in bs) t e in
    let a = admits.sound bs p.0 small p.1 in
    let again = read_from bs a.0 a.1 a.2 in
    let same : a.0 ≡ t = cc in
    (subst Conditions same a.1, subst (λ u. file_bytes u ≡ bs) same a.2)

statements : (cs : List Class) (f : List ℕ) (at : ℕ) → Bytes f → ClassesAt f at cs → StatementsStand f at cs
statements [] f at small h = tt
statements (c ∷ cs) f at small h =
    (stmt_uncut c.statement f (at + 2 + head_size c) (at + class_size c) small h.0.body.statement, statements cs f (at + class_size c) small h.1)

pub reads_trees : ReadsTrees
reads_trees =
    record {
      tree_read = tree_read;
      read_tree = read_tree;
      statements_stand = λ t k small. statements t.classes (file_bytes t) 4 small (stands t k).classes;
      behaviour_stands = λ t k. (stands t k).behaviour;
    }

-- the check's answer, by what is read
pub answer_read : (bs : List ℕ) (r : Result Summary LoadFault) → Bytes bs → summed r ≡ check_file bs → ReadAs r (read bs)
answer_read bs (Ok s) small e =
    let a = admits.sound bs _ small (sym e) in
    (a.0, read_from bs a.0 a.1 a.2, a.3)
answer_read bs (Err x) small e = ap (λ r. r >>= (λ s. Ok (tree_in bs s))) (sym e)
