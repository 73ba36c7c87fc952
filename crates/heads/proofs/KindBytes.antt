-- The kind bytes of a declaration, one by one.
use Rattle.std.proofs.Common.{◌≡◌, ℕ, zero, suc, ◌+◌, ◌-◌, ◌<◌, List, Ok, arith}
use Rattle.heads.specs.Checked.{Checked, ◌>>◌}
use Rattle.heads.specs.Heads.{check_kind}

-- so many kind bytes from one on
abbrev pub kinds_from : List ℕ → ℕ → ℕ → ℕ → Checked (Unit {0})
kinds_from f at zero i = Ok tt
kinds_from f at (suc n) i = check_kind f at i >> kinds_from f at n (i + 1)

pub kinds_step : (f : List ℕ) (at i : ℕ) → i < 4 → kinds_from f at (4 - i) i ≡ (check_kind f at i >> kinds_from f at (4 - (i + 1)) (i + 1))
kinds_step f at i h = let one : 4 - i ≡ suc (4 - (i + 1)) = omega arith in rw one

pub kinds_done : (f : List ℕ) (at i : ℕ) → i ≡ 4 → kinds_from f at (4 - i) i ≡ Ok tt
kinds_done f at i e = rw e
