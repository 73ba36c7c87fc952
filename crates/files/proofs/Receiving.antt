-- How many kinds some variables have.
use Rattle.std.proofs.Common.{◌≡◌, ℕ, zero, suc, ◌+◌, List, length, refl, ap}
use Rattle.heads.specs.Heads.{kinds_at}

pub kinds_long : (n : ℕ) (f : List ℕ) (at : ℕ) → length (kinds_at n f at) ≡ n
kinds_long zero f at = refl
kinds_long (suc n) f at = ap suc (kinds_long n f (at + 6))
