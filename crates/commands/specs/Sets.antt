-- Sets of channels, as the operand of HIDE has them.
use Rattle.std.specs.Prelude.{ℕ, ◌/◌, ◌%◌, ◌^◌, Bool, ◌==◌}

-- bit c of a set of channels
abbrev pub in_set : ℕ → ℕ → Bool
in_set s c = s / 2 ^ c % 2 == 1
