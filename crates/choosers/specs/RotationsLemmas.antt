-- Rotation is fair.
use Rattle.std.specs.Prelude.{◌≡◌, ℕ, zero, suc, ◌+◌, ◌%◌, ◌<◌, ◌≤◌, true, false, ◌≢◌, length, Some, None, Option, slice_index_or, refl}
use Rattle.std.proofs.Common.{ap, arith}
use Rattle.std.proofs.lemmas.Bool.{both_ways}
use Rattle.records.specs.Steps.{has, no_step}
use Rattle.choosers.specs.Meanings.{Question}
use Rattle.choosers.specs.Fairness.{Fair, some_has}
use Rattle.choosers.specs.Firsts.{first, by_some}
use Rattle.choosers.specs.Rotations.{first_of, nearest, ahead, rotation_pick, rotation_next, rotation, rotation_waits}
use Rattle.choosers.specs.FirstsLemmas.{found_first, found_some}
use Rattle.choosers.specs.FairnessLemmas.{Machine, fair_machine}

pub first_is : (p : ℕ) (q : Question) (i : ℕ) → first (has p) q ≡ Some i → first_of p q ≡ i
first_is p q i e = ap (λ o. by_some o (λ k. k) 0) e

ahead_next : (c r : ℕ) → c < 8 → r < 8 → c ≢ r → ahead c r ≡ ahead ((c + 1) % 8) r + 1
ahead_next c r h k n = omega arith

ahead_past : (c p r : ℕ) → c < 8 → p < 8 → r < 8 → p ≢ r → ahead c p ≤ ahead c r → ahead ((p + 1) % 8) r < ahead c r
ahead_past c p r h k j n e = omega arith

-- what the nearest process is, of n places from c on
abbrev pub Nearest : ℕ → ℕ → Question → Option ℕ → Type 0
Nearest n c q (Some p) = (p < 8) × (ahead c p < n) × ((i : ℕ) × (first (has p) q ≡ Some i)) × ((r : ℕ) → r < 8 → some_has r q ≡ true → ahead c p ≤ ahead c r)
Nearest n c q None = (r : ℕ) → r < 8 → some_has r q ≡ true → n ≤ ahead c r

-- one place on, where c is in no step
further : (n c : ℕ) (q : Question) → c < 8 → suc n ≤ 8 → some_has c q ≡ false → (o : Option ℕ) → Nearest n ((c + 1) % 8) q o → Nearest (suc n) c q o
further n c q h k no-c (Some p) (p8, near, is, least) =
    (p8, omega arith, is, λ r r8 has_r. let e = ahead_next c r h r8 (λ same. both_ways _ no-c (rw same has_r)) in let l = least r r8 has_r in omega arith)
further n c q h k no-c None least = λ r r8 has_r. let e = ahead_next c r h r8 (λ same. both_ways _ no-c (rw same has_r)) in let l = least r r8 has_r in omega arith

pub near : (n c : ℕ) (q : Question) → c < 8 → n ≤ 8 → Nearest n c q (nearest n c q)
near zero c q h k = λ r _ _. omega arith
near (suc n) c q h k = go (first (has c) q) refl (near n ((c + 1) % 8) q (omega arith) (omega arith))
  where
    go : (o : Option ℕ) → first (has c) q ≡ o → Nearest n ((c + 1) % 8) q (nearest n ((c + 1) % 8) q) → Nearest (suc n) c q (by_some o (λ _. Some c) (nearest n ((c + 1) % 8) q))
    go (Some i) e _ = (h, omega arith, (i, e), λ r _ _. omega arith)
    go None e more = further n c q h k (found_some c 0 q e) (nearest n ((c + 1) % 8) q) more

rotation_machine : Machine 7 rotation_pick rotation_next ahead (λ c. c < 8)
rotation_machine = record {
  keeps = λ c q h. keep c (nearest 8 c q) h;
  bounds = λ c _ p _. omega arith;
  answers = λ c q h n. picks q n (nearest 8 c q) c (near 8 c q h (omega arith));
  lowers = λ c q h r r8 a b. lower c q r r8 a h (nearest 8 c q) (near 8 c q h (omega arith)) b;
}
  where
    keep : (c : ℕ) (o : Option ℕ) → c < 8 → by_some o (λ p. (p + 1) % 8) c < 8
    keep c (Some p) h = omega arith
    keep c None h = h

    picks : (q : Question) → 0 < length q → (o : Option ℕ) (c : ℕ) → Nearest 8 c q o → by_some o (λ p. first_of p q) 0 < length q
    picks q n (Some p) c (_, _, (i, e), _) = rw (first_is p q i e) (found_first (has p) q i e).0
    picks q n None c _ = n

    lower : (c : ℕ) (q : Question) (r : ℕ) → r < 8 → some_has r q ≡ true → c < 8 → (o : Option ℕ) → Nearest 8 c q o → has r (slice_index_or q (by_some o (λ p. first_of p q) 0) no_step) ≡ false → ahead (by_some o (λ p. (p + 1) % 8) c) r < ahead c r
    lower c q r r8 a h (Some p) (p8, _, (i, e), least) b =
        ahead_past c p r h p8 r8 (λ same. both_ways _ b (rw (first_is p q i e, ← same) (found_first (has p) q i e).1)) (least r r8 a)
    lower c q r r8 a h None least b = let l = least r r8 a in absurd (omega arith)

pub rotation_fair : (c : ℕ) → c < 8 → Fair 7 (rotation c) (rotation_waits c)
rotation_fair = fair_machine 7 rotation_pick rotation_next ahead (λ c. c < 8) rotation_machine
