-- The head of a class: its variables and declarations, as they stand in the bytes, and their check.
use Rattle.std.specs.Prelude.{◌≡◌, ℕ, zero, suc, ◌+◌, ◌*◌, ◌≤◌, Bool, cond, ◌||◌, List, [], ◌∷◌, length, ℤ, ◌==◌, nat_le, nat_lt, slice_index}
use Rattle.std.specs.Int.{w32}
use Rattle.std.proofs.Common.{to_z}
use Rattle.values.specs.declared.kind.Kind.{Kind}
use Rattle.values.specs.declared.kind.Kind.TheVariants.{Integer, Boolean}
use Rattle.values.specs.declared.row.Row.{Row}
use Rattle.values.specs.Rows.{valid, value_of_row}
use Rattle.values.specs.Values.{Val}
use Rattle.commands.specs.Numbers.{two_bytes, four_bytes}
use Rattle.commands.specs.Trees.{Declaration}
use Rattle.answers.specs.declared.fault.FaultKind.TheVariants.{ClassHead}
use Rattle.answers.specs.declared.fault.Layer.TheVariants.{ClassHead as ClassHeadL}
use Rattle.heads.specs.Checked.{Checked, ask, repeated, ◌>>=◌, ◌>>◌}

abbrev pub byte : List ℕ → ℕ → ℕ
byte f at = slice_index f at

abbrev pub word_at : List ℕ → ℕ → ℕ
word_at f at = two_bytes (byte f at) (byte f (at + 1))

abbrev pub integer_at : List ℕ → ℕ → ℤ
integer_at f at = to_z w32 (four_bytes (byte f at) (byte f (at + 1)) (byte f (at + 2)) (byte f (at + 3)))

-- a variable's row, and the start values and kinds of some variables from a place on
abbrev pub row_at : List ℕ → ℕ → Row
row_at f at = record { kind = byte f at; known = byte f (at + 1); number = integer_at f (at + 2) }

abbrev pub values_at : ℕ → List ℕ → ℕ → List Val
values_at zero f at = []
values_at (suc n) f at = value_of_row (row_at f at) ∷ values_at n f (at + 6)

abbrev pub kind_at : List ℕ → ℕ → Kind
kind_at f at = cond (byte f at == 2) Boolean Integer

abbrev pub kinds_at : ℕ → List ℕ → ℕ → List Kind
kinds_at zero f at = []
kinds_at (suc n) f at = kind_at f at ∷ kinds_at n f (at + 6)

-- the kinds of a declaration's values, one byte each
abbrev pub value_kinds : ℕ → List ℕ → ℕ → List Kind
value_kinds zero f at = []
value_kinds (suc n) f at = kind_at f at ∷ value_kinds n f (at + 1)

abbrev pub declaration_at : List ℕ → ℕ → Declaration
declaration_at f at =
    record {
      receives = (byte f at == 1);
      channel = byte f (at + 1);
      message = byte f (at + 2);
      kinds = value_kinds (byte f (at + 3)) f (at + 4);
    }

abbrev pub declarations_at : ℕ → List ℕ → ℕ → List Declaration
declarations_at zero f at = []
declarations_at (suc n) f at = declaration_at f at ∷ declarations_at n f (at + 8)

-- a field of some bytes at a place lies within the class and its bounds
abbrev pub field : List ℕ → ℕ → ℕ → Bool → Checked (Unit {0})
field f at size good = do
  ask (nat_le (at + size) (length f)) ClassHead at ClassHeadL
  ask good ClassHead at ClassHeadL

abbrev pub is_kind : ℕ → Bool
is_kind b = b == 1 || b == 2

-- kind, known, start value
abbrev pub check_variable : List ℕ → ℕ → Checked (Unit {0})
check_variable f at = do
  field f at 1 (is_kind (byte f at))
  field f (at + 1) 1 (nat_lt (byte f (at + 1)) 2)
  field f (at + 2) 4 (valid (row_at f at))

-- some variables, and the place behind them
abbrev pub check_variables : ℕ → List ℕ → ℕ → Checked ℕ
check_variables n f at = repeated (check_variable f) 6 n at

-- the kind byte of value i in a declaration of some values
abbrev pub kind_fits : ℕ → ℕ → ℕ → Bool
kind_fits i count b = cond (nat_lt i count) (is_kind b) (b == 0)

abbrev pub check_kind : List ℕ → ℕ → ℕ → Checked (Unit {0})
check_kind f at i = field f (at + 4 + i) 1 (kind_fits i (byte f (at + 3)) (byte f (at + 4 + i)))

-- direction, channel, message, number of values
abbrev pub check_exchange : List ℕ → ℕ → Checked (Unit {0})
check_exchange f at = do
  field f at 1 (nat_lt (byte f at) 2)
  field f (at + 1) 1 (nat_lt (byte f (at + 1)) 32)
  field f (at + 2) 1 (nat_lt (byte f (at + 2)) 255)
  field f (at + 3) 1 (nat_lt (byte f (at + 3)) 5)

-- those, and four kinds
abbrev pub check_declaration : List ℕ → ℕ → Checked (Unit {0})
check_declaration f at = do
  check_exchange f at
  check_kind f at 0
  check_kind f at 1
  check_kind f at 2
  check_kind f at 3

abbrev pub check_declarations : ℕ → List ℕ → ℕ → Checked ℕ
check_declarations n f at = repeated (check_declaration f) 8 n at

-- a class whose bytes begin at a place: the place of its statement
abbrev pub check_head : List ℕ → ℕ → Checked ℕ
check_head f at = do
  field f at 1 (nat_lt (byte f at) 9)
  next ← check_variables (byte f at) f (at + 1)
  field f next 1 (nat_lt (byte f next) 17)
  check_declarations (byte f next) f (next + 1)

-- the kinds and declarations of the class whose bytes begin at a place
abbrev pub class_kinds : List ℕ → ℕ → List Kind
class_kinds f at = kinds_at (byte f at) f (at + 1)

abbrev pub declarations_place : List ℕ → ℕ → ℕ
declarations_place f at = at + 1 + 6 * byte f at

-- the place of the statement, behind the declarations
abbrev pub statement_place : List ℕ → ℕ → ℕ
statement_place f at = declarations_place f at + 1 + 8 * byte f (declarations_place f at)

abbrev pub class_declarations : List ℕ → ℕ → List Declaration
class_declarations f at = declarations_at (byte f (declarations_place f at)) f (declarations_place f at + 1)

-- the statement's place in a class whose head was checked: behind all variables and declarations
pub record Headed (f : List ℕ) (at place : ℕ) : Type 0 where
  pub variables_within : declarations_place f at + 1 ≤ length f
  pub place_is : place ≡ statement_place f at
  pub place_within : place ≤ length f
