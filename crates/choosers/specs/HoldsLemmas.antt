-- Hold as the code does it, and that it is fair over what is fair.
use Rattle.std.specs.Prelude.{◌≡◌, ℕ, zero, suc, ◌+◌, ◌-◌, ◌*◌, ◌<◌, ◌≤◌, Bool, true, false, cond, List, [], ◌∷◌, ◌++◌, length, Some, None, Option, ◌==◌, slice_index_or, refl}
use Rattle.std.proofs.Common.{arith, mul-le-mul_left, mul-suc}
use Rattle.std.specs.List.{AllByRecursion}
use Rattle.std.proofs.lemmas.Bool.{cond-false, cond_both, ne_eqb, both_ways}
use Rattle.records.specs.Steps.{has, internal_of, no_step}
use Rattle.choosers.specs.Meanings.{Question, Picker, after, when_empty}
use Rattle.choosers.specs.Fairness.{Waits, Fair, Proper, Within, Lowers, some_has}
use Rattle.choosers.specs.Firsts.{by_some}
use Rattle.choosers.specs.Holds.{held, hold, hold_waits, hold_turn, keeps}
use Rattle.choosers.specs.FirstsLemmas.{found_first}
use Rattle.choosers.specs.FairnessLemmas.{fair_after}

not_empty : (q : Question) → 0 < length q → (length q == 0) ≡ false
not_empty q h = ne_eqb (length q) 0 (λ e. absurd (omega arith))

filled : {X : Type 0} (q : Question) (x y : X) → 0 < length q → when_empty q x y ≡ y
filled q x y h = cond-false _ x y (not_empty q h)

-- what a question does, by the step that is held

module _ {X : Type 0} (left kept : ℕ) (q : Question) (on below same : X) where
  turn_each : (P : X → Type 0) → P on → P below → P same → P (hold_turn left kept q on below same)
  turn_each P a b c = cond_both (length q == 0) same _ P (λ _. c) (λ _. each (held left kept q))
    where
      each : (o : Option ℕ) → P (by_some o (λ _. on) below)
      each (Some i) = a
      each None = b

-- the same for the waits before and after a later pick, and for that pick
turn_three : {X Y Z : Type 0} (P : X → Y → Z → Type 0) (left kept : ℕ) (q : Question) (a b c : X) (a₁ b₁ c₁ : Y) (a₂ b₂ c₂ : Z) → 0 < length q → P a a₁ a₂ → P b b₁ b₂ → P (hold_turn left kept q a b c) (hold_turn left kept q a₁ b₁ c₁) (hold_turn left kept q a₂ b₂ c₂)
turn_three P left kept q a b c a₁ b₁ c₁ a₂ b₂ c₂ h on below = go (length q == 0) (not_empty q h) (held left kept q)
  where
    go : (t : Bool) → t ≡ false → (o : Option ℕ) → P (cond t c (by_some o (λ _. a) b)) (cond t c₁ (by_some o (λ _. a₁) b₁)) (cond t c₂ (by_some o (λ _. a₂) b₂))
    go true e o = absurd (both_ways true e refl)
    go false e (Some i) = on
    go false e None = below

held_below : (left kept : ℕ) (q : Question) (i : ℕ) → held left kept q ≡ Some i → (0 < left) × (i < length q)
held_below zero kept q i e = let z : ◌≡◌ {A = ℕ} 0 1 = cc in absurd (omega arith)
held_below (suc n) kept q i e = (omega arith, (found_first (internal_of kept) q i e).0)

-- fairness

module _ (K : ℕ) where
  pub hold_picks : (past : List Question) (m : Picker) (left kept : ℕ) → ((past : List Question) (q : Question) → 0 < length q → m past q < length q) → (q : Question) → 0 < length q → hold K m left kept past q < length q
  hold_picks [] m left kept f q h = rw (filled q 0 (by_some (held left kept q) (λ i. i) (m [] q)) h) (go (held left kept q) refl)
    where
      go : (o : Option ℕ) → held left kept q ≡ o → by_some o (λ i. i) (m [] q) < length q
      go (Some i) e = (held_below left kept q i e).1
      go None e = f [] q h
  hold_picks (x ∷ past) m left kept f q h =
      turn_each left kept x _ _ _ (λ r. r < length q)
      (hold_picks past m (left - 1) kept f q h)
      (hold_picks past (after m x) K (keeps m x) (λ y. f (x ∷ y)) q h)
      (hold_picks past m left kept f q h)

  hold_within : (B : ℕ) (past : List Question) (m : Picker) (w : Waits) (left kept : ℕ) → Fair B m w → left ≤ K → AllByRecursion Proper past → Within ((K + 1) * B + K) (hold_waits K m w left kept past)
  hold_within B [] m w left kept f l _ = λ p h. let a = mul-le-mul_left (K + 1) (f.within [] tt p h) in omega arith
  hold_within B (q ∷ past) m w left kept f l (proper, rest) =
      turn_each left kept q _ _ _ (Within ((K + 1) * B + K))
      (hold_within B past m w (left - 1) kept f (omega arith) rest)
      (hold_within B past (after m q) (after w q) K (keeps m q) (fair_after B m w q proper f) (omega arith) rest)
      (hold_within B past m w left kept f l rest)

  lower : (a b left : ℕ) → a < b → (K + 1) * a + K < (K + 1) * b + left
  lower a b left h = let c = mul-le-mul_left (K + 1) h in let d = mul-suc (K + 1) a in omega arith

  hold_falls : (B : ℕ) (past : List Question) (m : Picker) (w : Waits) (left kept : ℕ) → Fair B m w → AllByRecursion Proper past → (q : Question) → Proper q → Lowers (hold_waits K m w left kept past) (hold_waits K m w left kept (past ++ q ∷ [])) q (hold K m left kept past q)
  hold_falls B [] m w left kept f _ q proper = λ p h a. go (length q == 0) (not_empty q proper.0) p h a (held left kept q) refl
    where
      go : (t : Bool) → t ≡ false → (p : ℕ) → p < 8 → some_has p q ≡ true → (o : Option ℕ) → held left kept q ≡ o → has p (slice_index_or q (cond t 0 (by_some o (λ i. i) (m [] q))) no_step) ≡ false → cond {A = ℕ → ℕ} t (λ r. (K + 1) * w [] r + left) (by_some {X = ℕ → ℕ} o (λ _. λ r. (K + 1) * w [] r + (left - 1)) (λ r. (K + 1) * w (q ∷ []) r + K)) p < (K + 1) * w [] p + left
      go true z p h a o e _ = absurd (both_ways true z refl)
      go false z p h a (Some i) e _ = let l = (held_below left kept q i e).0 in omega arith
      go false z p h a None e b = lower (w (q ∷ []) p) (w [] p) left (f.falls [] tt q proper p h a b)
  hold_falls B (x ∷ past) m w left kept f (here, rest) q proper =
      turn_three (λ v v' n. Lowers v v' q n) left kept x _ _ _ _ _ _ _ _ _ here.0
      (hold_falls B past m w (left - 1) kept f rest q proper)
      (hold_falls B past (after m x) (after w x) K (keeps m x) (fair_after B m w x here f) rest q proper)

  pub hold_fair : (B : ℕ) (m : Picker) (w : Waits) (left kept : ℕ) → Fair B m w → left ≤ K → Fair ((K + 1) * B + K) (hold K m left kept) (hold_waits K m w left kept)
  hold_fair B m w left kept f l = record {
    below = λ past q h. hold_picks past m left kept f.below q h;
    within = λ past proper. hold_within B past m w left kept f l proper;
    falls = λ past before q proper. hold_falls B past m w left kept f before q proper;
  }
