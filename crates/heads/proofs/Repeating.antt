-- A check repeated over items of one size, one item at a time.
use Rattle.std.proofs.Common.{◌≡◌, ℕ, suc, ◌+◌, ◌-◌, ◌*◌, ◌<◌, mul-one, mul-add, arith}
use Rattle.heads.specs.Checked.{Checked, repeated, ◌>>◌}

pub repeated_step : (item : ℕ → Checked (Unit {0})) (size n i end : ℕ) → i < n → repeated item size (n - i) end ≡ (item end >> repeated item size (n - (i + 1)) (end + size))
repeated_step item size n i end more = let one : n - i ≡ suc (n - (i + 1)) = omega arith in rw one

pub one_further : (size i : ℕ) → size * (i + 1) ≡ size * i + size
one_further size i = omega (arith, mul-add size i 1, mul-one size)
