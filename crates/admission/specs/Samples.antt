-- Worked samples: files, and what the check answers.
use Rattle.std.specs.Prelude.{◌≡◌, ℕ, zero, suc, ◌+◌, List, [], ◌∷◌, ◌++◌, length, take, Ok, Err, slice_set}
use Rattle.answers.specs.declared.fault.FaultKind.TheVariants.{Command, Depth, Operand, Undeclared, Fronts}
use Rattle.answers.specs.declared.fault.Layer.TheVariants.{Statement, Expression, Behaviour}
use Rattle.heads.specs.Checked.{fault}
use Rattle.files.specs.Files.{check_file}

-- two classes: one sends its variable on channel 1, the other receives it; two processes under HIDE 1
abbrev pub exchange_file : List ℕ
exchange_file =
    0x50 ∷ 0x53 ∷ 0x01 ∷ 0x02 ∷ 0x16 ∷ 0x00 ∷ 0x01 ∷ 0x01 ∷ 0x01 ∷ 0x07 ∷ 0x00
    ∷ 0x00 ∷ 0x00 ∷ 0x01 ∷ 0x00 ∷ 0x01 ∷ 0x02 ∷ 0x01 ∷ 0x01 ∷ 0x00 ∷ 0x00 ∷ 0x00
    ∷ 0x22 ∷ 0x01 ∷ 0x02 ∷ 0x01 ∷ 0x04 ∷ 0x00 ∷ 0x18 ∷ 0x00 ∷ 0x01 ∷ 0x01 ∷ 0x01
    ∷ 0x00 ∷ 0x00 ∷ 0x00 ∷ 0x00 ∷ 0x01 ∷ 0x01 ∷ 0x01 ∷ 0x02 ∷ 0x01 ∷ 0x01 ∷ 0x00
    ∷ 0x00 ∷ 0x00 ∷ 0x23 ∷ 0x01 ∷ 0x02 ∷ 0x01 ∷ 0x00 ∷ 0xFF ∷ 0xFF ∷ 0xFF ∷ 0x42
    ∷ 0x02 ∷ 0x00 ∷ 0x00 ∷ 0x00 ∷ 0x41 ∷ 0x40 ∷ 0x00 ∷ 0x40 ∷ 0x00 ∷ 0x40 ∷ 0x01 ∷ []

-- one class without declarations, whose head is given, with this statement, and one process of it
abbrev pub one_class : List ℕ → List ℕ → List ℕ
one_class head statement =
    0x50 ∷ 0x53 ∷ 0x01 ∷ 0x01 ∷ (length head + length statement) ∷ 0x00 ∷ (head ++ (statement ++ (0x40 ∷ 0x00 ∷ [])))

-- SET of a Boolean to some NOTs over BOOL
abbrev pub nots : ℕ → List ℕ
nots zero = 0x02 ∷ 0x01 ∷ []
nots (suc n) = 0x0d ∷ nots n

abbrev pub nested_file : ℕ → List ℕ
nested_file n = one_class (0x01 ∷ 0x02 ∷ 0x00 ∷ 0x00 ∷ 0x00 ∷ 0x00 ∷ 0x00 ∷ 0x00 ∷ []) (0x21 ∷ 0x00 ∷ nots n)

-- SEL of one SKIP more than so many, nested to the right, from a place on
abbrev pub skips : ℕ → ℕ → List ℕ
skips zero at = 0x20 ∷ []
skips (suc n) at = 0x25 ∷ (at + 4) ∷ 0x00 ∷ 0x20 ∷ skips n (at + 4)

abbrev pub select_file : ℕ → List ℕ
select_file n = one_class (0x00 ∷ 0x00 ∷ []) (skips n 8)

pub record Samples : Type 0 where
  pub loads : check_file exchange_file ≡ Ok (2, 54, 2)
  pub last_byte_removed : check_file (take 65 exchange_file) ≡ Err (fault Command 64 Behaviour)
  pub absent_variable : check_file (slice_set exchange_file 27 1) ≡ Err (fault Operand 26 Expression)
  pub undeclared_message : check_file (slice_set exchange_file 24 3) ≡ Err (fault Undeclared 22 Statement)
  pub deepest : check_file (nested_file 30) ≡ Ok (1, 48, 1)
  pub too_deep : check_file (nested_file 31) ≡ Err (fault Depth 47 Expression)
  pub eight_fronts : check_file (select_file 7) ≡ Ok (1, 37, 1)
  pub nine_fronts : check_file (select_file 8) ≡ Err (fault Fronts 8 Statement)
