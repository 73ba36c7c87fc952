-- The bytes of the table of arrivals.
use Rattle.std.specs.Prelude.{◌≡◌, ℕ, Bool, true, false, cond, List, [], ◌∷◌, map, None, Some, Option, ◌==◌, refl}
use Rattle.std.proofs.Common.{sym, ap, ◌∙◌, eqb-true}

-- the channel that a byte of the table stands for, and the byte that stands for a channel
unfoldable pub channel_of : ℕ → Option ℕ
channel_of d = cond (d == 255) None (Some d)

unfoldable pub byte_of : Option ℕ → ℕ
byte_of None = 255
byte_of (Some c) = c

-- a byte is 255, or stands for itself
byte_by : (d : ℕ) (b : Bool) → (d == 255) ≡ b → byte_of (cond b None (Some d)) ≡ d
unfolding byte_of
byte_by d true e = sym (eqb-true d 255 e)
byte_by d false e = refl

byte_of_channel : (d : ℕ) → byte_of (channel_of d) ≡ d
unfolding channel_of
byte_of_channel d = byte_by d (d == 255) refl

pub bytes_of_channels : (ds : List ℕ) → map byte_of (map channel_of ds) ≡ ds
bytes_of_channels [] = refl
bytes_of_channels (d ∷ ds) = ap (λ x. x ∷ map byte_of (map channel_of ds)) (byte_of_channel d) ∙ ap (λ xs. d ∷ xs) (bytes_of_channels ds)

-- what callers see of a table
pub record Entries : Type 0 where
  pub channels : List (Option ℕ)
