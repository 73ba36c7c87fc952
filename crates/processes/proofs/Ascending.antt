-- Fronts with ascending numbers.
use Rattle.std.proofs.Common.{◌≡◌, ℕ, ◌+◌, ◌<◌, ◌≤◌, List, [], ◌∷◌, length, None, refl, arith}
use Rattle.std.proofs.lemmas.Bool.{ne_eqb}
use Rattle.processes.specs.Found.{front_numbered}
use Rattle.processes.specs.Fronts.{Front}
use Rattle.processes.specs.Laws.{Ascend}

pub ascend_short : (a b : ℕ) (fs : List Front) → Ascend a fs b → a + length fs ≤ b
ascend_short a b [] h = omega arith
ascend_short a b (x ∷ fs) h = omega (arith, h.0, ascend_short (x.number + 1) b fs h.1)

pub ascend_below : (a b d : ℕ) (fs : List Front) → b ≤ d → Ascend a fs b → Ascend a fs d
ascend_below a b d [] l h = omega arith
ascend_below a b d (x ∷ fs) l h = (h.0, ascend_below (x.number + 1) b d fs l h.1)

-- no front has a number below the first
pub none_before : (n a b : ℕ) (fs : List Front) → Ascend a fs b → n < a → front_numbered n fs ≡ None
none_before n a b [] h l = refl
none_before n a b (x ∷ fs) h l =
    let ne : x.number ≡ n → ⊥ = λ e. omega (arith, h.0, l, e) in
    rw (ne_eqb x.number n ne) (none_before n (x.number + 1) b fs h.1 (omega (arith, h.0, l)))
