-- The check of an expression, one term at a time.
use Rattle.std.proofs.Common.{◌≡◌, ℕ, zero, suc, ◌+◌, ◌-◌, ◌<◌, true, false, List, IsErrAnd, MatchResult, Some, Ok, Err, Option, ap, ◌∙◌, arith}
use Rattle.std.specs.List.{slice_get}
use Rattle.values.specs.declared.kind.Kind.{Kind}
use Rattle.values.specs.declared.kind.Kind.TheVariants.{Boolean}
use Rattle.values.specs.declared.op.Op.{Op}
use Rattle.values.specs.declared.row.Row.{Row}
use Rattle.values.specs.Kinds.{awaited}
use Rattle.values.specs.Ops.{part_kind, gives}
use Rattle.sheet.specs.declared.fault.Expected.TheVariants.{FewerLevels}
use Rattle.sheet.specs.declared.fault.Fault.{Fault}
use Rattle.sheet.specs.declared.word.Term.{Term}
use Rattle.sheet.specs.declared.word.Term.TheVariants.{Value, Not, Binary}
use Rattle.sheet.specs.Checks.{check, parts, known, ask, fault, Checked, End, ◌>>◌}
use Rattle.sheet.specs.Faults.{expected_of}
use Rattle.sheet.specs.Words.{Word, term_kind}

-- what the exit of a `?` returns
pub through : {A B : Type 0} (r : Checked A) (s : Checked B) (P : A → Type 0) {x : Fault} → IsErrAnd r (λ y. y ≡ x) → Err x ≡ s → MatchResult r P (λ f. Err f ≡ s)
through (Ok a) s P h e = absurd h
through (Err y) s P h e = ap (λ z. Err z) h ∙ e

pub check_err : (d : ℕ) (ws : List Word) (at : ℕ) (k : Option Kind) {x : Fault} → Err x ≡ known (slice_get ws at) k at → Err x ≡ check d ws at k
unfolding check
check_err zero ws at k e = rw (← e)
check_err (suc d) ws at k e = rw (← e)

pub check_deep : (d : ℕ) (ws : List Word) (at : ℕ) (k : Option Kind) (t : Term) → d ≡ 0 → Ok t ≡ known (slice_get ws at) k at → Err (fault at FewerLevels) ≡ check d ws at k
unfolding check
check_deep zero ws at k t h e = rw (← e)
check_deep (suc d) ws at k t h e = absurd (omega arith)

pub check_step : (d : ℕ) (ws : List Word) (at : ℕ) (k : Option Kind) (t : Term) → 0 < d → Ok t ≡ known (slice_get ws at) k at → check d ws at k ≡ (ask (awaited k (term_kind t)) at (expected_of k) >> parts (λ p j. check (d - 1) ws p j) at t)
unfolding check
check_step zero ws at k t h e = absurd (omega arith)
check_step (suc d) ws at k t h e = let less : suc d - 1 ≡ d = omega arith in rw (less, ← e)

module _ (d : ℕ) (ws : List Word) (at : ℕ) (k : Option Kind) (t : Term) (left : 0 < d) (term : Ok t ≡ known (slice_get ws at) k at) where
  pub unfit : awaited k (term_kind t) ≡ false → Err (fault at (expected_of k)) ≡ check d ws at k
  unfit e = rw (check_step d ws at k t left term, e)

  module _ (fit : awaited k (term_kind t) ≡ true) where
    fitted : check d ws at k ≡ parts (λ p j. check (d - 1) ws p j) at t
    fitted = rw (check_step d ws at k t left term, fit)

    pub value_1 : (r : Row) (j : Kind) → t ≡ Value r → j ≡ term_kind t → Ok (at + 1, j) ≡ check d ws at k
    value_1 r j is given = rw (given, fitted, is)

    pub not_1 : {x : Fault} → t ≡ Not → Err x ≡ check (d - 1) ws (at + 1) (Some Boolean) → Err x ≡ check d ws at k
    not_1 is e = rw (fitted, is, ← e)

    pub not_2 : (a : End) → t ≡ Not → Ok a ≡ check (d - 1) ws (at + 1) (Some Boolean) → Ok (a.0, Boolean) ≡ check d ws at k
    not_2 a is e = rw (fitted, is, ← e)

    module _ (op : Op) (j : Option Kind) (is : t ≡ Binary op) (given : j ≡ part_kind op) where
      pub binary_1 : {x : Fault} → Err x ≡ check (d - 1) ws (at + 1) j → Err x ≡ check d ws at k
      binary_1 e = rw (fitted, is, ← given, ← e)

      pub binary_2 : {x : Fault} (a : End) → Ok a ≡ check (d - 1) ws (at + 1) j → Err x ≡ check (d - 1) ws a.0 (Some a.1) → Err x ≡ check d ws at k
      binary_2 a e₁ e = rw (fitted, is, ← given, ← e₁, ← e)

      pub binary_3 : (a b : End) (g : Kind) → g ≡ gives op → Ok a ≡ check (d - 1) ws (at + 1) j → Ok b ≡ check (d - 1) ws a.0 (Some a.1) → Ok (b.0, g) ≡ check d ws at k
      binary_3 a b g gave e₁ e₂ = rw (gave, fitted, is, ← given, ← e₁, ← e₂)
