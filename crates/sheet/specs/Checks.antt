-- The check of an expression in prefix form: the first fault in reading order, or where it ends and its kind.
use Rattle.std.specs.Prelude.{ℕ, zero, suc, ◌+◌, Bool, true, false, cond, List, length, Some, None, Ok, Err, Option, Result, nat_lt}
use Rattle.std.specs.List.{slice_get}
use Rattle.values.specs.declared.kind.Kind.{Kind}
use Rattle.values.specs.declared.kind.Kind.TheVariants.{Boolean}
use Rattle.values.specs.declared.value.TextFault.TheVariants.{NotAValue, OutOfRange}
use Rattle.values.specs.Kinds.{awaited}
use Rattle.values.specs.Ops.{part_kind, gives}
use Rattle.sheet.specs.declared.fault.Expected.{Expected}
use Rattle.sheet.specs.declared.fault.Expected.TheVariants.{Word as WordE, Number, FewerLevels, End as EndE}
use Rattle.sheet.specs.declared.fault.Fault.{Fault}
use Rattle.sheet.specs.declared.word.Term.{Term}
use Rattle.sheet.specs.declared.word.Term.TheVariants.{Value, Not, Binary}
use Rattle.sheet.specs.Faults.{expected_of}
use Rattle.sheet.specs.Words.{Word, term_kind}

-- the place behind an expression and its kind
abbrev pub End : Type 0
End = ℕ × Kind

abbrev pub Checked : Type 0 → Type 0
Checked A = Result A Fault

-- places count from 0, the words of a fault from 1
abbrev pub fault : ℕ → Expected → Fault
fault at e = record { word = at + 1; expected = e }

infixl 20 ◌>>=◌
infixl 20 ◌>>◌
abbrev pub ◌>>=◌ : {A B : Type 0} → Checked A → (A → Checked B) → Checked B
Ok a >>= f = f a
Err x >>= f = Err x

abbrev pub ◌>>◌ : {A B : Type 0} → Checked A → Checked B → Checked B
Ok a >> y = y
Err x >> y = Err x

-- go on where the test is passed
abbrev pub ask : Bool → ℕ → Expected → Checked (Unit {0})
ask true at e = Ok tt
ask false at e = Err (fault at e)

-- the term at a place, where a part of a kind is awaited
abbrev pub known : Option Word → Option Kind → ℕ → Checked Term
known None k at = Err (fault at (expected_of k))
known (Some (Err NotAValue)) k at = Err (fault at WordE)
known (Some (Err OutOfRange)) k at = Err (fault at Number)
known (Some (Ok t)) k at = Ok t

-- a term's parts, with what the check answers of a part of a kind at each place
abbrev pub parts : (ℕ → Option Kind → Checked End) → ℕ → Term → Checked End
parts part at (Value r) = Ok (at + 1, term_kind (Value r))
parts part at Not = do
  only ← part (at + 1) (Some Boolean)
  Ok (only.0, Boolean)
parts part at (Binary op) = do
  first ← part (at + 1) (part_kind op)
  second ← part first.0 (Some first.1)
  Ok (second.0, gives op)

-- the expression at a place, of at most that many levels
unfoldable pub check : ℕ → List Word → ℕ → Option Kind → Checked End
check zero ws at k = known (slice_get ws at) k at >>= (λ t. Err (fault at FewerLevels))
check (suc d) ws at k = known (slice_get ws at) k at >>= (λ t. ask (awaited k (term_kind t)) at (expected_of k) >> parts (λ p j. check d ws p j) at t)

-- nothing stands behind the expression
abbrev pub no_more : List Word → End → Checked Kind
no_more ws e = cond (nat_lt e.0 (length ws)) (Err (fault e.0 EndE)) (Ok e.1)

-- the whole line: an expression of either kind, at most 32 levels deep, and nothing behind it
abbrev pub check_line : List Word → Checked Kind
check_line ws = check 32 ws 0 None >>= no_more ws
