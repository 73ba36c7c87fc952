-- What an admitted file's classes keep.
use Rattle.std.proofs.Common.{◌≡◌, ℕ, zero, suc, ◌<◌, ◌≤◌, ltb, List, length, Ok, sym, refl, ap, ◌∙◌, subst, arith}
use Rattle.std.specs.List.{AllByRecursion}
use Rattle.std.proofs.lemmas.Bool.{ltb-true}
use Rattle.values.specs.declared.row.Row.{Row}
use Rattle.commands.specs.ByteLists.{Bytes}
use Rattle.commands.specs.Bytes.{file_bytes}
use Rattle.heads.specs.Checked.{◌>>=◌}
use Rattle.files.specs.Files.{Summary, check_file}
use Rattle.admission.specs.Admission.{summary}
use Rattle.admission.specs.Conditions.{ClassKept, Conditions}
use Rattle.admission.specs.Read.{classes_in, tree_in, read}
use Rattle.admission.proofs.Oks.{both_true, ok_is}
use Rattle.admission.proofs.Rereading.{reads_trees}
use Rattle.admission.proofs.Supplied.{admits}
use Rattle.steps.proofs.Staying.{class_kept as its_class_kept}
use Rattle.tables.specs.declared.table.Entry.{Entry}
use Rattle.tables.specs.Offered.{SoundProcess}
use Rattle.tables.specs.Views.{class_in_file}
use Rattle.tables.proofs.Sound.{OfClass, sound_stands}

-- the file that bytes are read as
pub record Reads (f : List ℕ) (s : Summary) : Type 0 where
  pub conditions : Conditions (tree_in f s)
  pub bytes : file_bytes (tree_in f s) ≡ f
  pub summed : s ≡ summary (tree_in f s)

pub file_reads : (f : List ℕ) (s : Summary) → Bytes f → check_file f ≡ Ok s → Reads f s
file_reads f s bs h =
    let t = tree_in f s in
    let r : read f ≡ Ok t = ap (λ x. x >>= (λ s. Ok (tree_in f s))) h in
    let k = reads_trees.read_tree f t bs r in
    let a = admits.sound f s bs h in
    let e : read f ≡ Ok a.0 = subst (λ x. read x ≡ Ok a.0) a.2 (reads_trees.tree_read a.0 a.1) in
    let same : t ≡ a.0 = ok_is t a.0 (sym r ∙ e) in
    record { conditions = k.0; bytes = k.1; summed = subst (λ x. s ≡ summary x) (sym same) a.3 }

classes_many : (n : ℕ) (f : List ℕ) (at : ℕ) → length (classes_in n f at) ≡ n
classes_many zero f at = refl
classes_many (suc n) f at = ap suc (classes_many n f _)

-- what a process of an admitted file is
pub record Good (f : List ℕ) (n : ℕ) (e : Entry) (rows : List Row) : Type 0 where
  pub class_kept : ClassKept (class_in_file f n e.class)
  pub of_its_class : OfClass f (class_in_file f n e.class) e rows
  pub class_below : e.class < n
  pub short : length f ≤ 4096

pub good : (f : List ℕ) (n : ℕ) (e : Entry) (rows : List Row) → Bytes f → SoundProcess f n e rows → Good f n e rows
good f n e rows bs p =
    let s = p.admitted.0 in
    let r = file_reads f s bs p.admitted.1 in
    let h = both_true (ltb e.class n) _ p.sound in
    let below = ltb-true e.class n h.0 in
    let all : AllByRecursion ClassKept (classes_in n f 4) = subst (λ m. AllByRecursion ClassKept (classes_in m f 4)) p.admitted.2 r.conditions.classes_kept in
    let short : length f ≤ 4096 = subst (λ x. length x ≤ 4096) r.bytes r.conditions.short in
    record {
      class_kept = its_class_kept (classes_in n f 4) e.class all (omega (arith, classes_many n f 4));
      of_its_class = sound_stands f (class_in_file f n e.class) e rows bs short h.1;
      class_below = below;
      short = short;
    }
