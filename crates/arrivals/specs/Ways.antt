-- The way of a channel up a behaviour, command by command.
use Rattle.std.specs.Prelude.{◌≡◌, ℕ, ◌+◌, ◌-◌, ◌<◌, ◌≤◌, false, ◌⊎◌, List, [], ◌∷◌, ◌++◌, ◌≢◌}
use Rattle.commands.specs.Trees.{Behaviour, process, parallel, hide, rename}
use Rattle.admission.specs.Conditions.{processes}
use Rattle.commands.specs.Sets.{in_set}
use Rattle.arrivals.specs.Climbing.{side_of, by_side}

-- a command on the way
pub data Passed : Type 0 where
  par : Passed
  -- set of channels
  hides : ℕ → Passed
  -- from, to
  renames : ℕ → ℕ → Passed

-- channel d below the command is channel e above it
abbrev pub Passes : Passed → ℕ → ℕ → Type 0
Passes par d e = e ≡ d
Passes (hides s) d e = (in_set s d ≡ false) × (e ≡ d)
Passes (renames x y) d e = ((d ≡ x) × (e ≡ y)) ⊎ ((d ≢ x) × (e ≡ d))

-- channel c comes out of these commands, the lowest first, as channel d
abbrev pub ComesOut : List Passed → ℕ → ℕ → Type 0
ComesOut [] c d = d ≡ c
ComesOut (m ∷ ms) c d = (e : ℕ) × Passes m c e × ComesOut ms e d

-- the commands above the PROC of process p, the lowest first
abbrev pub way : Behaviour → ℕ → List Passed
way (process k) p = []
way (parallel a b) p = by_side (way a) (way b) (side_of p (processes a)) ++ (par ∷ [])
way (hide s a) p = way a p ++ (hides s ∷ [])
way (rename x y a) p = way a p ++ (renames x y ∷ [])

-- u stands in the behaviour, and its first process is number n there
abbrev pub Part : Behaviour → ℕ → Behaviour → Type 0
Part (process k) n u = (n ≡ 0) × (u ≡ process k)
Part (parallel a b) n u = ((n ≡ 0) × (u ≡ parallel a b)) ⊎ (Part a n u ⊎ ((m : ℕ) × (n ≡ processes a + m) × Part b m u))
Part (hide s a) n u = ((n ≡ 0) × (u ≡ hide s a)) ⊎ Part a n u
Part (rename x y a) n u = ((n ≡ 0) × (u ≡ rename x y a)) ⊎ Part a n u

-- process p is one of the part, whose first process is number n
pub record Within (u : Behaviour) (n p : ℕ) : Type 0 where
  pub from : n ≤ p
  pub below : p < n + processes u

-- p is in one part of a PAR and q in the other, and channel c comes out below that PAR, on the side of p, as channel d
abbrev pub Arrives : Behaviour → Behaviour → ℕ → ℕ → ℕ → ℕ → ℕ → Type 0
Arrives a b n p q c d =
    (Within a n p × Within b (n + processes a) q × ComesOut (way a (p - n)) c d)
    ⊎ (Within b (n + processes a) p × Within a n q × ComesOut (way b (p - (n + processes a))) c d)

-- some PAR of the behaviour is such a PAR
pub record MeetsAs (u : Behaviour) (p q c d : ℕ) : Type 0 where
  pub first : Behaviour
  pub second : Behaviour
  pub start : ℕ
  pub stands : Part u start (parallel first second)
  pub arrives : Arrives first second start p q c d
