-- The tree that the bytes of a file are: its first fault, or the tree.
use Rattle.std.specs.Prelude.{◌≡◌, ℕ, zero, suc, ◌+◌, List, [], ◌∷◌, take, Ok, Err, Result}
use Rattle.commands.specs.Bytes.{file_bytes, head_size, class_size, classes_size}
use Rattle.commands.specs.ByteLists.{Bytes}
use Rattle.commands.specs.Stands.{StmtAt, BehaviourAt}
use Rattle.commands.specs.Trees.{Class, File}
use Rattle.answers.specs.declared.fault.LoadFault.{LoadFault}
use Rattle.files.specs.declared.file.Summary.{Summary}
use Rattle.heads.specs.Checked.{Checked, ◌>>=◌}
use Rattle.files.specs.Files as files
use Rattle.files.specs.Files.{check_file, levels}
use Rattle.heads.specs.Heads.{byte, word_at, values_at, class_declarations, statement_place}
use Rattle.parts.specs.Parts.{stmt_in, behaviour_in}
use Rattle.admission.specs.Admission.{summary}
use Rattle.admission.specs.Conditions.{Conditions}

-- the class whose bytes begin at a place and end with the list
abbrev pub body_in : List ℕ → ℕ → Class
body_in f at =
    record {
      variables = values_at (byte f at) f (at + 1);
      declarations = class_declarations f at;
      statement = stmt_in levels f (statement_place f at);
    }

-- the class at a place, and some classes one after the other
abbrev pub class_in : List ℕ → ℕ → Class
class_in f at = body_in (take (at + 2 + word_at f at) f) (at + 2)

abbrev pub classes_in : ℕ → List ℕ → ℕ → List Class
classes_in zero f at = []
classes_in (suc n) f at = class_in f at ∷ classes_in n f (at + 2 + word_at f at)

-- the tree of a file with so many classes and its behaviour at a place
abbrev pub tree_in : List ℕ → files.Summary → File
tree_in f s = record { classes = classes_in s.0 f 4; behaviour = behaviour_in levels f s.1 }

-- the first fault, or the tree
abbrev pub read : List ℕ → Checked File
read f = check_file f >>= (λ s. Ok (tree_in f s))

-- the statement of each class stands in the file, behind its head
abbrev pub StatementsStand : List ℕ → ℕ → List Class → Type 0
StatementsStand f at [] = Unit {0}
StatementsStand f at (c ∷ cs) = StmtAt f (at + 2 + head_size c) c.statement × StatementsStand f (at + class_size c) cs

pub record ReadsTrees : Type 0 where
  -- the tree of an admitted file is what is read, and what is read is the tree of an admitted file
  pub tree_read : (t : File) → Conditions t → read (file_bytes t) ≡ Ok t
  pub read_tree : (bs : List ℕ) (t : File) → Bytes bs → read bs ≡ Ok t → Conditions t × (file_bytes t ≡ bs)
  -- and every part of it stands at its place
  pub statements_stand : (t : File) → Conditions t → Bytes (file_bytes t) → StatementsStand (file_bytes t) 4 t.classes
  pub behaviour_stands : (t : File) → Conditions t → BehaviourAt (file_bytes t) (4 + classes_size t.classes) t.behaviour

-- an answer of the check, by what is read
abbrev pub ReadAs : Result Summary LoadFault → Checked File → Type 0
ReadAs (Ok s) r = (t : File) × (r ≡ Ok t) × (◌≡◌ {A = files.Summary} (s.classes, s.behaviour, s.processes) (summary t))
ReadAs (Err x) r = r ≡ Err x
