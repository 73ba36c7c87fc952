-- The table of arrivals while one walk over the behaviour fills it.
-- A row of the table is 32 channels; the row of process p and where to is p * 9 + to. Until the walk ends, the row of
-- process p and outside has as what its channels come out of the commands passed so far.
use Rattle.std.specs.Prelude.{◌≡◌, ◌≢◌, ℕ, ◌+◌, ◌-◌, ◌*◌, ◌<◌, ◌≤◌, List, Option, slice_index}
use Rattle.commands.specs.declared.behaviour.BehaviourCommand.{BehaviourCommand}
use Rattle.commands.specs.declared.behaviour.BehaviourCommand.TheVariants.{Proc, Par, Hide, Rename}
use Rattle.commands.specs.Trees.{Behaviour}
use Rattle.admission.specs.Conditions.{processes}
use Rattle.arrivals.specs.Bytes.{channel_of}
use Rattle.arrivals.specs.Climbing.{past_hide, past_rename, climb, meeting_channel}

-- channel c of row x
unfoldable pub in_row : List ℕ → ℕ → ℕ → Option ℕ
in_row t x c = channel_of (slice_index t (x * 32 + c))

-- what the table says of channel c of process p, where to
abbrev pub told : List ℕ → ℕ → ℕ → ℕ → Option ℕ
told t p to c = in_row t (p * 9 + to) c

-- what comes out of a command that has one part, given what arrives below it
abbrev pub past : BehaviourCommand → Option ℕ → Option ℕ
past (Proc k) r = r
past (Par p) r = r
past (Hide s) r = past_hide s r
past (Rename x y) r = past_rename x y r

-- a RENAME turns a channel to a channel
abbrev pub KeepsBytes : BehaviourCommand → Type 0
KeepsBytes (Proc k) = Unit {0}
KeepsBytes (Par p) = Unit {0}
KeepsBytes (Hide s) = Unit {0}
KeepsBytes (Rename x y) = (x < 32) × (y < 32)

-- row x is now this one, and the others are as before
pub record RowWritten (t u : List ℕ) (x : ℕ) (row : ℕ → Option ℕ) : Type 0 where
  pub written : (c : ℕ) → c < 32 → in_row u x c ≡ row c
  pub others : (y c : ℕ) → y ≢ x → c < 32 → in_row u y c ≡ in_row t y c

-- the channels of the processes from `first` up to `end` passed a command
pub record RowsPast (t u : List ℕ) (first end : ℕ) (k : BehaviourCommand) : Type 0 where
  pub passed : (p c : ℕ) → first ≤ p → p < end → c < 32 → told u p 8 c ≡ past k (told t p 8 c)
  pub before : (p c : ℕ) → p < first → c < 32 → told u p 8 c ≡ told t p 8 c
  pub behind : (p c : ℕ) → end ≤ p → c < 32 → told u p 8 c ≡ told t p 8 c
  pub meetings : (p q c : ℕ) → q < 8 → c < 32 → told u p q c ≡ told t p q c

-- what the processes from a up to b have in column s stands in their columns from m up to n too
pub record Copied (t u : List ℕ) (a b m n s : ℕ) : Type 0 where
  pub copied : (p q c : ℕ) → a ≤ p → p < b → m ≤ q → q < n → c < 32 → told u p q c ≡ told t p s c
  pub before : (p q c : ℕ) → p < a → q < 9 → c < 32 → told u p q c ≡ told t p q c
  pub behind : (p q c : ℕ) → b ≤ p → q < 9 → c < 32 → told u p q c ≡ told t p q c
  pub left : (p q c : ℕ) → q < m → c < 32 → told u p q c ≡ told t p q c
  pub right : (p q c : ℕ) → n ≤ q → q < 9 → c < 32 → told u p q c ≡ told t p q c

-- the processes from `first` up to `middle` met those from there up to `end`
pub record Met (t u : List ℕ) (first middle end : ℕ) : Type 0 where
  pub upward : (p q c : ℕ) → first ≤ p → p < middle → middle ≤ q → q < end → c < 32 → told u p q c ≡ told t p 8 c
  pub downward : (p q c : ℕ) → middle ≤ p → p < end → first ≤ q → q < middle → c < 32 → told u p q c ≡ told t p 8 c
  pub first_part : (p q c : ℕ) → p < middle → q < middle → c < 32 → told u p q c ≡ told t p q c
  pub second_part : (p q c : ℕ) → middle ≤ p → middle ≤ q → q < 9 → c < 32 → told u p q c ≡ told t p q c
  pub outside : (p c : ℕ) → c < 32 → told u p 8 c ≡ told t p 8 c

-- the table has the arrivals of a behaviour whose first process is number `first`
pub record Filled (t : List ℕ) (first : ℕ) (b : Behaviour) : Type 0 where
  pub passes : (p c : ℕ) → p < processes b → c < 32 → told t (first + p) 8 c ≡ climb b p c
  pub meets : (p q c : ℕ) → p < processes b → q < processes b → c < 32 → told t (first + p) (first + q) c ≡ meeting_channel b p q c

-- what it says of the processes before `first` is as it was
pub record SameBefore (t u : List ℕ) (first : ℕ) : Type 0 where
  pub passes : (p c : ℕ) → p < first → c < 32 → told u p 8 c ≡ told t p 8 c
  pub meets : (p q c : ℕ) → p < first → q < first → c < 32 → told u p q c ≡ told t p q c

-- process p is told what process l is
pub record SameProcess (t u : List ℕ) (l p : ℕ) : Type 0 where
  pub same : (q c : ℕ) → q < 9 → c < 32 → told u p q c ≡ told t l q c
  pub others : (r q c : ℕ) → r ≢ p → q < 9 → c < 32 → told u r q c ≡ told t r q c

-- with n processes, a number past the last counts as the last
pub record LastRepeated (t u : List ℕ) (n : ℕ) : Type 0 where
  pub meetings : (p q c : ℕ) → p < n → q < n → c < 32 → told u p q c ≡ told t p q c
  pub outside : (p c : ℕ) → p < n → c < 32 → told u p 8 c ≡ told t p 8 c
  pub partners : (p q c : ℕ) → p < n → n ≤ q → q < 8 → c < 32 → told u p q c ≡ told t p (n - 1) c
  pub processes : (p q c : ℕ) → n ≤ p → p < 8 → q < 9 → c < 32 → told u p q c ≡ told u (n - 1) q c
