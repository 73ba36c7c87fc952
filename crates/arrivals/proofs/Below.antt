-- What stands below a command of a behaviour that is kept, and what comes out of the command.
use Rattle.std.proofs.Common.{◌≡◌, ℕ, ◌+◌, ◌-◌, ◌<◌, ◌≤◌, List, Option, sym, ap, ◌∙◌, subst, arith, le-ltb, lt-ltb}
use Rattle.commands.specs.Stands.{BehaviourAt}
use Rattle.commands.specs.Trees.{Behaviour, parallel, hide, rename}
use Rattle.admission.specs.Conditions.{processes}
use Rattle.arrivals.specs.Climbing.{Side, First, Second, side_of, climb, meeting_channel, KeptAt}

module _ (f : List ℕ) (at n : ℕ) where
  first_by : (a b : Behaviour) → BehaviourAt f (at + 3) a → KeptAt f at n (parallel a b) → KeptAt f (at + 3) n a
  first_by a b s k = record { here = s; kept = k.kept.0; few = omega (arith, k.few) }

  pub first_kept : (u a b : Behaviour) → u ≡ parallel a b → BehaviourAt f (at + 3) a → KeptAt f at n u → KeptAt f (at + 3) n a
  first_kept u a b e s k = first_by a b s (subst (λ v. KeptAt f at n v) e k)

  second_by : (a b : Behaviour) (p : ℕ) → BehaviourAt f p b → KeptAt f at n (parallel a b) → KeptAt f p n b
  second_by a b p s k = record { here = s; kept = k.kept.1; few = omega (arith, k.few) }

  pub second_kept : (u a b : Behaviour) (p : ℕ) → u ≡ parallel a b → BehaviourAt f p b → KeptAt f at n u → KeptAt f p n b
  second_kept u a b p e s k = second_by a b p s (subst (λ v. KeptAt f at n v) e k)

  hide_by : (x : ℕ) (a : Behaviour) → BehaviourAt f (at + 5) a → KeptAt f at n (hide x a) → KeptAt f (at + 5) n a
  hide_by x a s k = record { here = s; kept = k.kept.1; few = k.few }

  pub hide_kept : (u : Behaviour) (x : ℕ) (a : Behaviour) → u ≡ hide x a → BehaviourAt f (at + 5) a → KeptAt f at n u → KeptAt f (at + 5) n a
  hide_kept u x a e s k = hide_by x a s (subst (λ v. KeptAt f at n v) e k)

  rename_by : (x y : ℕ) (a : Behaviour) → BehaviourAt f (at + 3) a → KeptAt f at n (rename x y a) → KeptAt f (at + 3) n a
  rename_by x y a s k = record { here = s; kept = k.kept.2; few = k.few }

  pub rename_kept : (u : Behaviour) (x y : ℕ) (a : Behaviour) → u ≡ rename x y a → BehaviourAt f (at + 3) a → KeptAt f at n u → KeptAt f (at + 3) n a
  rename_kept u x y a e s k = rename_by x y a s (subst (λ v. KeptAt f at n v) e k)

  turned_by : (x y : ℕ) (a : Behaviour) → KeptAt f at n (rename x y a) → (x < 32) × (y < 32)
  turned_by x y a k = (k.kept.0, k.kept.1)

  pub turned_kept : (u : Behaviour) (x y : ℕ) (a : Behaviour) → u ≡ rename x y a → KeptAt f at n u → (x < 32) × (y < 32)
  turned_kept u x y a e k = turned_by x y a (subst (λ v. KeptAt f at n v) e k)

-- the two parts of a PAR
pub first_side : (p n : ℕ) → p < n → First p ≡ side_of p n
first_side p n h = rw (lt-ltb p n h)

pub second_side : (p n : ℕ) → n ≤ p → Second (p - n) ≡ side_of p n
second_side p n h = rw (le-ltb p n h)

side_at : (p n m : ℕ) (s : Side) → n ≡ m → s ≡ side_of p n → side_of p m ≡ s
side_at p n m s e h = ap (side_of p) (sym e) ∙ sym h

module _ (u a b : Behaviour) (e : u ≡ parallel a b) (n : ℕ) (k : n ≡ processes a) (p c i : ℕ) (r : Option ℕ) where
  pub climb_first : First i ≡ side_of p n → r ≡ climb a i c → r ≡ climb u p c
  climb_first x h = h ∙ sym (ap (λ v. climb v p c) e ∙ rw (side_at p n (processes a) (First i) k x))

  pub climb_second : Second i ≡ side_of p n → r ≡ climb b i c → r ≡ climb u p c
  climb_second x h = h ∙ sym (ap (λ v. climb v p c) e ∙ rw (side_at p n (processes a) (Second i) k x))

module _ (u a b : Behaviour) (e : u ≡ parallel a b) (n : ℕ) (k : n ≡ processes a) (p q c i j : ℕ) (r : Option ℕ) where
  pub meet_first : First i ≡ side_of p n → First j ≡ side_of q n → r ≡ meeting_channel a i j c → r ≡ meeting_channel u p q c
  meet_first x y h =
      h
      ∙ sym (ap (λ v. meeting_channel v p q c) e ∙ rw (side_at p n (processes a) (First i) k x, side_at q n (processes a) (First j) k y))

  pub meet_upward : First i ≡ side_of p n → Second j ≡ side_of q n → r ≡ climb a i c → r ≡ meeting_channel u p q c
  meet_upward x y h =
      h
      ∙ sym (ap (λ v. meeting_channel v p q c) e ∙ rw (side_at p n (processes a) (First i) k x, side_at q n (processes a) (Second j) k y))

  pub meet_downward : Second i ≡ side_of p n → First j ≡ side_of q n → r ≡ climb b i c → r ≡ meeting_channel u p q c
  meet_downward x y h =
      h
      ∙ sym (ap (λ v. meeting_channel v p q c) e ∙ rw (side_at p n (processes a) (Second i) k x, side_at q n (processes a) (First j) k y))

  pub meet_second : Second i ≡ side_of p n → Second j ≡ side_of q n → r ≡ meeting_channel b i j c → r ≡ meeting_channel u p q c
  meet_second x y h =
      h
      ∙ sym (ap (λ v. meeting_channel v p q c) e ∙ rw (side_at p n (processes a) (Second i) k x, side_at q n (processes a) (Second j) k y))
