-- Files and their bytes, given the same of statements and behaviours.
use Rattle.std.proofs.Common.{◌≡◌, ℕ, ◌+◌, ◌≤◌, List, [], ◌∷◌, ◌++◌, length, take, drop, sym, refl, ap, ◌∙◌, subst, append-nil, arith}
use Rattle.std.proofs.lemmas.List.{drop_all}
use Rattle.values.specs.Values.{Val}
use Rattle.commands.specs.Bytes.{behaviour_bytes, head_size, class_size, classes_bytes, classes_size, file_bytes}
use Rattle.commands.specs.Stands.{StmtAt, BehaviourAt}
use Rattle.commands.specs.Trees.{Stmt, Declaration, Class, Behaviour, File, behaviour_size}
use Rattle.heads.specs.Heads.{byte}
use Rattle.commands.specs.ByteLists.{Bytes}
use Rattle.admission.specs.Admission.{Admits}
use Rattle.admission.specs.Conditions.{BehaviourKept, Conditions}
use Rattle.admission.proofs.ClassBytes.{StmtRead, StmtWritten, StmtOne, classes_read, classes_written, nothing_left}
use Rattle.admission.proofs.ClassParts.{BodyAt, ClassAt, ClassesAt}
use Rattle.admission.proofs.FileParts.{FileAt, file_sound, file_complete}
use Rattle.admission.proofs.HeadBytes.{drop_two}

-- what is needed of behaviours
abbrev pub BehaviourRead : Type 0
BehaviourRead = (t : Behaviour) (f : List ℕ) (at : ℕ) → Bytes f → BehaviourAt f at t → drop at f ≡ behaviour_bytes at t ++ drop (at + behaviour_size t) f

abbrev pub BehaviourWritten : Type 0
BehaviourWritten = (t : Behaviour) (n : ℕ) → BehaviourKept n t → (f : List ℕ) (at : ℕ) (rest : List ℕ) → drop at f ≡ behaviour_bytes at t ++ rest → BehaviourAt f at t × (drop (at + behaviour_size t) f ≡ rest) × (at + behaviour_size t ≤ length f)

abbrev pub BehaviourOne : Type 0
BehaviourOne = (t u : Behaviour) (f : List ℕ) (at : ℕ) → BehaviourAt f at t → BehaviourAt f at u → t ≡ u

-- one tree in a file
same_class : (vs ws : List Val) (ds es : List Declaration) (t u : Stmt) → vs ≡ ws → ds ≡ es → t ≡ u → ◌≡◌ {A = Class} (record { variables = vs; declarations = ds; statement = t }) (record { variables = ws; declarations = es; statement = u })
same_class vs ws ds es t u p q r = cc

module _ (one : StmtOne) where
  body_one : (f : List ℕ) (at : ℕ) (c d : Class) → BodyAt f at c → BodyAt f at d → c ≡ d
  body_one f at c d a b =
      let vs : c.variables ≡ d.variables = sym a.variables ∙ b.variables in
      let ds : c.declarations ≡ d.declarations = sym a.declarations ∙ b.declarations in
      let n = ap length vs in
      let m = ap length ds in
      let place : at + head_size d ≡ at + head_size c = omega (arith, n, m) in
      same_class c.variables d.variables c.declarations d.declarations c.statement d.statement vs ds
      (one c.statement d.statement f (at + head_size c) a.statement (subst (λ i. StmtAt f i d.statement) place b.statement))

  class_one : (f : List ℕ) (at : ℕ) (c d : Class) → ClassAt f at c → ClassAt f at d → c ≡ d
  class_one f at c d a b =
      let size : at + class_size d ≡ at + class_size c = omega (arith, a.long, b.long) in
      body_one (take (at + class_size c) f) (at + 2) c d a.body (subst (λ i. BodyAt (take i f) (at + 2) d) size b.body)

  classes_one : (f : List ℕ) (at : ℕ) (cs ds : List Class) → length cs ≡ length ds → ClassesAt f at cs → ClassesAt f at ds → cs ≡ ds
  classes_one f at [] [] n a b = refl
  classes_one f at [] (d ∷ ds) n a b = absurd (omega arith)
  classes_one f at (c ∷ cs) [] n a b = absurd (omega arith)
  classes_one f at (c ∷ cs) (d ∷ ds) n a b =
      let x : c ≡ d = class_one f at c d a.0 b.0 in
      let y : cs ≡ ds = classes_one f (at + class_size c) cs ds (omega arith) a.1 (subst (λ e. ClassesAt f (at + class_size e) ds) (sym x) b.1) in
      cc

same_file : (cs ds : List Class) (a b : Behaviour) → cs ≡ ds → a ≡ b → ◌≡◌ {A = File} (record { classes = cs; behaviour = a }) (record { classes = ds; behaviour = b })
same_file cs ds a b p q = cc

pub file_one : StmtOne → BehaviourOne → (f : List ℕ) (t u : File) → FileAt f t → FileAt f u → t ≡ u
file_one one₁ one₂ f t u a b =
    let cs : t.classes ≡ u.classes = classes_one one₁ f 4 t.classes u.classes (sym a.count ∙ b.count) a.classes b.classes in
    same_file t.classes u.classes t.behaviour u.behaviour cs
    (one₂ t.behaviour u.behaviour f (4 + classes_size t.classes) a.behaviour (subst (λ l. BehaviourAt f (4 + classes_size l) u.behaviour) (sym cs) b.behaviour))

-- a file's bytes are those of its tree
pub file_read : StmtRead → BehaviourRead → (f : List ℕ) (t : File) → Bytes f → FileAt f t → file_bytes t ≡ f
file_read read₁ read₂ f t bs h =
    let m = 4 + classes_size t.classes in
    let least = h.header.least in
    let end = h.ends in
    let a : drop 0 f ≡ byte f 0 ∷ byte f 1 ∷ drop 2 f = drop_two f 0 (omega arith) in
    let b : drop 2 f ≡ byte f 2 ∷ byte f 3 ∷ drop 4 f = drop_two f 2 (omega arith) in
    let c : drop 4 f ≡ classes_bytes 4 t.classes ++ drop m f = classes_read read₁ f 4 t.classes bs h.classes in
    let last : drop (m + behaviour_size t.behaviour) f ≡ [] = drop_all (m + behaviour_size t.behaviour) f (omega arith) in
    let d : drop m f ≡ behaviour_bytes m t.behaviour = read₂ t.behaviour f m bs h.behaviour ∙ ap (λ l. behaviour_bytes m t.behaviour ++ l) last ∙ append-nil (behaviour_bytes m t.behaviour) in
    let w = h.header.first in
    let x = h.header.second in
    let y = h.header.third in
    let z = h.count in
    sym (a ∙ ap (λ l. byte f 0 ∷ byte f 1 ∷ l) (b ∙ ap (λ l. byte f 2 ∷ byte f 3 ∷ l) (c ∙ ap (λ l. classes_bytes 4 t.classes ++ l) d)) ∙ rw (w, x, y, z))

pub file_written : StmtWritten → BehaviourWritten → (t : File) → Conditions t → FileAt (file_bytes t) t
file_written written₁ written₂ t k =
    let f = file_bytes t in
    let m = 4 + classes_size t.classes in
    let rest = behaviour_bytes m t.behaviour in
    let a = classes_written written₁ f 4 t.classes rest k.classes_kept refl in
    let b = written₂ t.behaviour (length t.classes) k.behaviour_kept f m [] (a.1 ∙ sym (append-nil rest)) in
    record {
      header = record { least = omega arith; most = k.short; first = refl; second = refl; third = refl; some = k.some_class; few = k.classes_few };
      count = refl;
      classes = a.0;
      behaviour = b.0;
      ends = nothing_left f (m + behaviour_size t.behaviour) b.1 b.2;
    }

pub admits_from : StmtRead → StmtWritten → StmtOne → BehaviourRead → BehaviourWritten → BehaviourOne → Admits
admits_from read₁ written₁ one₁ read₂ written₂ one₂ =
    record {
      sound = λ bs s bytes h.
          let p = file_sound bs s bytes h in
          let same = file_read read₁ read₂ bs p.0 bytes p.1 in
          (p.0, p.2 (ap length same), same, p.3);
      complete = λ t k. file_complete (file_bytes t) t (file_written written₁ written₂ t k) k;
      one = λ t u k l e. file_one one₁ one₂ (file_bytes t) t u (file_written written₁ written₂ t k) (subst (λ f. FileAt f u) (sym e) (file_written written₁ written₂ u l));
    }
