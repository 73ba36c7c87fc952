-- How a channel travels up a behaviour.
use Rattle.std.specs.Prelude.{ℕ, ◌+◌, ◌-◌, ◌*◌, ◌/◌, ◌%◌, ◌≤◌, cond, ◌&&◌, List, map, Some, None, Option, ◌==◌, nat_lt, slice_index_or}
use Rattle.std.specs.List.{range_with_len}
use Rattle.commands.specs.Sets.{in_set}
use Rattle.commands.specs.Stands.{BehaviourAt}
use Rattle.commands.specs.Trees.{Behaviour, process, parallel, hide, rename}
use Rattle.admission.specs.Conditions.{BehaviourKept, processes}

-- what comes out of a HIDE and of a RENAME, given what arrives below it
abbrev pub past_hide : ℕ → Option ℕ → Option ℕ
past_hide s None = None
past_hide s (Some d) = cond (in_set s d) None (Some d)

abbrev pub past_rename : ℕ → ℕ → Option ℕ → Option ℕ
past_rename x y None = None
past_rename x y (Some d) = cond (d == x) (Some y) (Some d)

-- the part of a PAR that has a process, and its number in that part
pub data Side : Type 0 where
  First : ℕ → Side
  Second : ℕ → Side

-- where process p is in a PAR whose first part has n processes
abbrev pub side_of : ℕ → ℕ → Side
side_of p n = cond (nat_lt p n) (First p) (Second (p - n))

abbrev pub by_side : {A : Type 0} → (ℕ → A) → (ℕ → A) → Side → A
by_side f g (First p) = f p
by_side f g (Second p) = g p

-- the channel as which channel c of process p passes the root; none where a HIDE stops it.
-- A number past the last process counts as the last.
abbrev pub climb : Behaviour → ℕ → ℕ → Option ℕ
climb (process k) p c = Some c
climb (parallel a b) p c = by_side (λ i. climb a i c) (λ i. climb b i c) (side_of p (processes a))
climb (hide s a) p c = past_hide s (climb a p c)
climb (rename x y a) p c = past_rename x y (climb a p c)

-- the channel as which channel c of process p arrives at the lowest PAR above p and q; none where it is stopped
-- below that PAR, or p and q are the same
abbrev pub meeting_channel : Behaviour → ℕ → ℕ → ℕ → Option ℕ
meeting_channel (process k) p q c = None
meeting_channel (parallel a b) p q c =
    by_side
    (λ i. by_side (λ j. meeting_channel a i j c) (λ j. climb a i c) (side_of q (processes a)))
    (λ i. by_side (λ j. climb b i c) (λ j. meeting_channel b i j c) (side_of q (processes a)))
    (side_of p (processes a))
meeting_channel (hide s a) p q c = meeting_channel a p q c
meeting_channel (rename x y a) p q c = meeting_channel a p q c

-- where to: a process of a number below 8, or 8 for outside
abbrev pub arrival : Behaviour → ℕ → ℕ → ℕ → Option ℕ
arrival b p to c = cond (to == 8) (climb b p c) (meeting_channel b p to c)

-- what the table says for process p, to, and channel c stands at (p * 9 + to) * 32 + c
abbrev pub arrival_entry : Behaviour → ℕ → Option ℕ
arrival_entry b i = arrival b (i / 32 / 9) (i / 32 % 9) (i % 32)

unfoldable pub arrival_table : Behaviour → List (Option ℕ)
arrival_table b = map (arrival_entry b) (range_with_len 0 2304)

unfoldable pub arrival_in : List (Option ℕ) → ℕ → ℕ → ℕ → Option ℕ
arrival_in t p to c = cond (nat_lt p 8 && nat_lt to 9 && nat_lt c 32) (slice_index_or t ((p * 9 + to) * 32 + c) None) None

-- a meeting is with a process
abbrev pub meeting_in : List (Option ℕ) → ℕ → ℕ → ℕ → Option ℕ
meeting_in t p q c = cond (nat_lt q 8) (arrival_in t p q c) None

-- at a place of a file stands a behaviour over so many classes, of at most 8 processes
pub record KeptAt (f : List ℕ) (at n : ℕ) (b : Behaviour) : Type 0 where
  pub here : BehaviourAt f at b
  pub kept : BehaviourKept n b
  pub few : processes b ≤ 8
