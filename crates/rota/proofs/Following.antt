-- One more number of a script followed.
use Rattle.std.proofs.Common.{◌≡◌, ℕ, zero, suc, ◌+◌, true, false, cond, List, [], ◌∷◌, length, drop, Ok, refl, ◌∙◌, add-one}
use Rattle.std.specs.Prelude.{nat_lt}
use Rattle.choosers.specs.Meanings.{Question, declines}
use Rattle.choosers.specs.Scripts.{script_answer, script_next}

rest : (ns : List ℕ) (q : Question) (n : ℕ) → script_answer ns q ≡ Ok n → drop 1 ns ≡ script_next ns q
rest [] q n h = cc
rest (m ∷ ns) q n h =
    elim (nat_lt m (length q)) as (λ b. cond b (Ok m) declines ≡ Ok n → ns ≡ cond b ns (m ∷ ns)) [
      | true ↦ λ h. refl
      | false ↦ λ h. cc
    ] h

behind : (ns : List ℕ) (i : ℕ) → drop (suc i) ns ≡ drop 1 (drop i ns)
behind ns zero = refl
behind [] (suc i) = refl
behind (x ∷ ns) (suc i) = behind ns i

-- where the numbers left picked one, those behind it are left
pub followed_on : (ns : List ℕ) (i : ℕ) (q : Question) (n : ℕ) → script_answer (drop i ns) q ≡ Ok n → drop (i + 1) ns ≡ script_next (drop i ns) q
followed_on ns i q n h = rw add-one (behind ns i) ∙ rest (drop i ns) q n h
