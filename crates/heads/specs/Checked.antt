-- An answer or the first fault.
use Rattle.std.specs.Prelude.{ℕ, zero, suc, ◌+◌, Bool, true, false, Some, None, Ok, Err, Option, Result}
use Rattle.answers.specs.declared.fault.FaultKind.{FaultKind}
use Rattle.answers.specs.declared.fault.Layer.{Layer}
use Rattle.answers.specs.declared.fault.LoadFault.{LoadFault}

abbrev pub Checked : Type 0 → Type 0
Checked A = Result A LoadFault

abbrev pub fault : FaultKind → ℕ → Layer → LoadFault
fault k at l = record { kind = k; place = at; layer = l }

infixl 20 ◌>>=◌
infixl 20 ◌>>◌
abbrev pub ◌>>=◌ : {A B : Type 0} → Checked A → (A → Checked B) → Checked B
Ok a >>= f = f a
Err x >>= f = Err x

abbrev pub ◌>>◌ : {A B : Type 0} → Checked A → Checked B → Checked B
Ok a >> y = y
Err x >> y = Err x

-- go on where the test is passed
abbrev pub ask : Bool → FaultKind → ℕ → Layer → Checked (Unit {0})
ask true k at l = Ok tt
ask false k at l = Err (fault k at l)

-- go on with what was found
abbrev pub known : {A : Type 0} → Option A → FaultKind → ℕ → Layer → Checked A
known None k at l = Err (fault k at l)
known (Some a) k at l = Ok a

-- some items of one size, one after the other, and the place behind them
abbrev pub repeated : (ℕ → Checked (Unit {0})) → ℕ → ℕ → ℕ → Checked ℕ
repeated item size zero at = Ok at
repeated item size (suc n) at = item at >> repeated item size n (at + size)
