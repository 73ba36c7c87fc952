-- Which files are admitted.
use Rattle.std.specs.Prelude.{◌≡◌, ℕ, ◌+◌, List, length, Ok}
use Rattle.commands.specs.ByteLists.{Bytes}
use Rattle.commands.specs.Bytes.{file_bytes, classes_size}
use Rattle.commands.specs.Trees.{File}
use Rattle.files.specs.Files.{Summary, check_file}
use Rattle.admission.specs.Conditions.{Conditions, processes}

-- some tree keeps the conditions, and its encoding is those bytes
abbrev pub Admitted : List ℕ → Type 0
Admitted bs = (t : File) × Conditions t × (file_bytes t ≡ bs)

-- what loading needs of a tree
abbrev pub summary : File → Summary
summary t = (length t.classes, 4 + classes_size t.classes, processes t.behaviour)

-- the check accepts exactly the admitted bytes, and no bytes are two trees
pub record Admits : Type 0 where
  pub sound : (bs : List ℕ) (s : Summary) → Bytes bs → check_file bs ≡ Ok s → (t : File) × Conditions t × (file_bytes t ≡ bs) × (s ≡ summary t)
  pub complete : (t : File) → Conditions t → check_file (file_bytes t) ≡ Ok (summary t)
  pub one : (t u : File) → Conditions t → Conditions u → file_bytes t ≡ file_bytes u → t ≡ u
