-- The loops over a row of the table.
use Rattle.std.proofs.Common.{◌≡◌, ◌≢◌, ℕ, ◌+◌, ◌*◌, ◌<◌, ◌≤◌, List, length, set, Option, refl, ap, ◌∙◌, arith, get_or-set_same, length-set, get_or-set_other, below_more}
use Rattle.arrivals.specs.Bytes.{channel_of}
use Rattle.arrivals.specs.Filling.{in_row, RowWritten}

-- one channel is written
set_here : (u : List ℕ) (x c v : ℕ) → x * 32 + c < length u → in_row (set u (x * 32 + c) v) x c ≡ channel_of v
unfolding in_row
set_here u x c v h = ap channel_of (get_or-set_same u (x * 32 + c) v 0 h)

set_other : (u : List ℕ) (x c y d v : ℕ) → y * 32 + d ≢ x * 32 + c → in_row (set u (x * 32 + c) v) y d ≡ in_row u y d
unfolding in_row
set_other u x c y d v h = ap channel_of (get_or-set_other u (x * 32 + c) (y * 32 + d) v 0 h)

-- the first n channels of row x are written
pub record RowPart (t u : List ℕ) (x : ℕ) (row : ℕ → Option ℕ) (n : ℕ) : Type 0 where
  pub long : length u ≡ length t
  pub written : (c : ℕ) → c < n → in_row u x c ≡ row c
  pub ahead : (c : ℕ) → n ≤ c → in_row u x c ≡ in_row t x c
  pub others : (y c : ℕ) → y ≢ x → c < 32 → in_row u y c ≡ in_row t y c

pub row_none : (t : List ℕ) (x : ℕ) (row : ℕ → Option ℕ) → RowPart t t x row 0
row_none t x row = record { long = refl; written = λ c h. absurd (omega arith); ahead = λ c h. refl; others = λ y c h k. refl }

pub row_more : (t u : List ℕ) (x : ℕ) (row : ℕ → Option ℕ) (n v : ℕ) → x * 32 + n < length t → n < 32 → channel_of v ≡ row n → RowPart t u x row n → RowPart t (set u (x * 32 + n) v) x row (n + 1)
row_more t u x row n v h l e r =
    record {
      long = length-set u (x * 32 + n) v ∙ r.long;
      written =
          below_more (λ c. in_row (set u (x * 32 + n) v) x c ≡ row c) n
          (λ c k. set_other u x n x c v (omega arith) ∙ r.written c k)
          (let h' : x * 32 + n < length u = omega (arith, r.long) in set_here u x n v h' ∙ e);
      ahead = λ c k. set_other u x n x c v (omega arith) ∙ r.ahead c (omega arith);
      others = λ y c k m. set_other u x n y c v (omega arith) ∙ r.others y c k m;
    }

pub row_done : (t u : List ℕ) (x : ℕ) (row : ℕ → Option ℕ) (n : ℕ) → 32 ≤ n → RowPart t u x row n → RowWritten t u x row
row_done t u x row n h r = record { written = λ c k. r.written c (omega arith); others = r.others }
