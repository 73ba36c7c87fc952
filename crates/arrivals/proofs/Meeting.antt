-- A channel arrives at the lowest PAR above two processes as what comes out below that PAR.
use Rattle.std.proofs.Common.{◌≡◌, ℕ, suc, ◌+◌, ◌-◌, ◌<◌, ◌≤◌, ◌⊎◌, Some, sym, refl, ap, ◌∙◌, subst, inl, inr, ⊎_elim, arith}
use Rattle.std.proofs.lemmas.Bool.Decides.{leb_tells}
use Rattle.commands.specs.Trees.{Behaviour, process, parallel, hide, rename}
use Rattle.admission.specs.Conditions.{processes}
use Rattle.arrivals.specs.Climbing.{climb, meeting_channel}
use Rattle.arrivals.specs.Laws.{MeetingLaws}
use Rattle.arrivals.specs.Ways.{ComesOut, way, Part, Within, Arrives, MeetsAs}
use Rattle.arrivals.proofs.Below.{first_side, second_side, meet_first, meet_upward, meet_downward, meet_second}
use Rattle.arrivals.proofs.Rooted.{passes, is_passed, none_left}

-- the two parts of a PAR, by the numbers of the processes
module _ (u a b : Behaviour) (e : u ≡ parallel a b) (p q c : ℕ) where
  pub first_met : p < processes a → q < processes a → meeting_channel u p q c ≡ meeting_channel a p q c
  first_met h k = sym (meet_first u a b e (processes a) refl p q c p q _ (first_side p (processes a) h) (first_side q (processes a) k) refl)

  pub upward_met : p < processes a → processes a ≤ q → meeting_channel u p q c ≡ climb a p c
  upward_met h k = sym (meet_upward u a b e (processes a) refl p q c p (q - processes a) _ (first_side p (processes a) h) (second_side q (processes a) k) refl)

  pub downward_met : processes a ≤ p → q < processes a → meeting_channel u p q c ≡ climb b (p - processes a) c
  downward_met h k = sym (meet_downward u a b e (processes a) refl p q c (p - processes a) q _ (second_side p (processes a) h) (first_side q (processes a) k) refl)

  pub second_met : processes a ≤ p → processes a ≤ q → meeting_channel u p q c ≡ meeting_channel b (p - processes a) (q - processes a) c
  second_met h k = sym (meet_second u a b e (processes a) refl p q c (p - processes a) (q - processes a) _ (second_side p (processes a) h) (second_side q (processes a) k) refl)

-- the processes of a part are processes of the whole
part_few : (b u : Behaviour) (n : ℕ) → Part b n u → n + processes u ≤ processes b
part_few (process k) u n h = omega (arith, h.0, ap processes h.1)
part_few (parallel a b) u n (inl h) = omega (arith, h.0, ap processes h.1)
part_few (parallel a b) u n (inr (inl h)) = omega (arith, part_few a u n h)
part_few (parallel a b) u n (inr (inr h)) = omega (arith, h.1, part_few b u h.0 h.2)
part_few (hide s a) u n (inl h) = omega (arith, h.0, ap processes h.1)
part_few (hide s a) u n (inr h) = part_few a u n h
part_few (rename x y a) u n (inl h) = omega (arith, h.0, ap processes h.1)
part_few (rename x y a) u n (inr h) = part_few a u n h

-- both processes are the PAR's
p_within : (a b : Behaviour) (n p q c d : ℕ) → Arrives a b n p q c d → Within (parallel a b) n p
p_within a b n p q c d (inl h) = record { from = h.0.from; below = omega (arith, h.0.below) }
p_within a b n p q c d (inr h) = record { from = omega (arith, h.0.from); below = omega (arith, h.0.below) }

q_within : (a b : Behaviour) (n p q c d : ℕ) → Arrives a b n p q c d → Within (parallel a b) n q
q_within a b n p q c d (inl h) = record { from = omega (arith, h.1.from); below = omega (arith, h.1.below) }
q_within a b n p q c d (inr h) = record { from = h.1.from; below = omega (arith, h.1.below) }

-- the same with k processes before them
within_moved : (u : Behaviour) (k m n p r : ℕ) → n ≡ k + m → k ≤ p → r ≡ p - k → Within u n p → Within u m r
within_moved u k m n p r e l i h = record { from = omega (arith, h.from); below = omega (arith, h.below) }

within_back : (u : Behaviour) (k m n p r : ℕ) → n ≡ k + m → k ≤ p → r ≡ p - k → Within u m r → Within u n p
within_back u k m n p r e l i h = record { from = omega (arith, h.from); below = omega (arith, h.below) }

out_moved : (u : Behaviour) (i j c d : ℕ) → i ≡ j → ComesOut (way u i) c d → ComesOut (way u j) c d
out_moved u i j c d e h = subst (λ x. ComesOut (way u x) c d) e h

moved : (a b : Behaviour) (k m n p q c d : ℕ) → n ≡ k + m → k ≤ p → k ≤ q → Arrives a b n p q c d → Arrives a b m (p - k) (q - k) c d
moved a b k m n p q c d e l r (inl h) =
    inl (within_moved a k m n p (p - k) e l refl h.0, within_moved b k (m + processes a) (n + processes a) q (q - k) (omega arith) r refl h.1, out_moved a (p - n) (p - k - m) c d (omega arith) h.2)
moved a b k m n p q c d e l r (inr h) =
    inr (within_moved b k (m + processes a) (n + processes a) p (p - k) (omega arith) l refl h.0, within_moved a k m n q (q - k) e r refl h.1, out_moved b (p - (n + processes a)) (p - k - (m + processes a)) c d (omega arith) h.2)

back : (a b : Behaviour) (k m n p q c d : ℕ) → n ≡ k + m → k ≤ p → k ≤ q → Arrives a b m (p - k) (q - k) c d → Arrives a b n p q c d
back a b k m n p q c d e l r (inl h) =
    inl (within_back a k m n p (p - k) e l refl h.0, within_back b k (m + processes a) (n + processes a) q (q - k) (omega arith) r refl h.1, out_moved a (p - k - m) (p - n) c d (omega arith) h.2)
back a b k m n p q c d e l r (inr h) =
    inr (within_back b k (m + processes a) (n + processes a) p (p - k) (omega arith) l refl h.0, within_back a k m n q (q - k) e r refl h.1, out_moved b (p - k - (m + processes a)) (p - (n + processes a)) c d (omega arith) h.2)

-- at the PAR itself
here : (u a b : Behaviour) (n p q c d : ℕ) → n ≡ 0 → u ≡ parallel a b → Arrives a b n p q c d → meeting_channel u p q c ≡ Some d
here u a b n p q c d z e (inl h) =
    upward_met u a b e p q c (omega (arith, h.0.below)) (omega (arith, h.1.from))
    ∙ ap (λ x. climb a x c) (let i : p ≡ p - n = omega arith in i) ∙ is_passed a (p - n) c d h.2
here u a b n p q c d z e (inr h) =
    downward_met u a b e p q c (omega (arith, h.0.from)) (omega (arith, h.1.below))
    ∙ ap (λ x. climb b x c) (let i : p - processes a ≡ p - (n + processes a) = omega arith in i) ∙ is_passed b (p - (n + processes a)) c d h.2

found_at : (b x y : Behaviour) (n p q c d : ℕ) → Part b n (parallel x y) → Arrives x y n p q c d → meeting_channel b p q c ≡ Some d
found_at (process k) x y n p q c d s h = absurd (let e = s.1 in let z : ◌≡◌ {A = ℕ} 0 1 = cc in omega arith)
found_at (parallel a b) x y n p q c d (inl s) h = here (parallel a b) x y n p q c d s.0 (sym s.1) h
found_at (parallel a b) x y n p q c d (inr (inl s)) h =
    let few = part_few a (parallel x y) n s in
    first_met (parallel a b) a b refl p q c (omega (arith, few, (p_within x y n p q c d h).below)) (omega (arith, few, (q_within x y n p q c d h).below))
    ∙ found_at a x y n p q c d s h
found_at (parallel a b) x y n p q c d (inr (inr s)) h =
    let l : processes a ≤ p = omega (arith, s.1, (p_within x y n p q c d h).from) in
    let r : processes a ≤ q = omega (arith, s.1, (q_within x y n p q c d h).from) in
    second_met (parallel a b) a b refl p q c l r
    ∙ found_at b x y s.0 (p - processes a) (q - processes a) c d s.2 (moved x y (processes a) s.0 n p q c d s.1 l r h)
found_at (hide z a) x y n p q c d (inl s) h = absurd (let e = s.1 in let z : ◌≡◌ {A = ℕ} 0 1 = cc in omega arith)
found_at (hide z a) x y n p q c d (inr s) h = found_at a x y n p q c d s h
found_at (rename w z a) x y n p q c d (inl s) h = absurd (let e = s.1 in let z : ◌≡◌ {A = ℕ} 0 1 = cc in omega arith)
found_at (rename w z a) x y n p q c d (inr s) h = found_at a x y n p q c d s h

-- a PAR of a part is one of the whole
in_first : (a b : Behaviour) (p q c d : ℕ) → MeetsAs a p q c d → MeetsAs (parallel a b) p q c d
in_first a b p q c d m = record { first = m.first; second = m.second; start = m.start; stands = inr (inl m.stands); arrives = m.arrives }

in_second : (a b : Behaviour) (p q c d : ℕ) → processes a ≤ p → processes a ≤ q → MeetsAs b (p - processes a) (q - processes a) c d → MeetsAs (parallel a b) p q c d
in_second a b p q c d l r m =
    record {
      first = m.first;
      second = m.second;
      start = processes a + m.start;
      stands = inr (inr (m.start, refl, m.stands));
      arrives = back m.first m.second (processes a) m.start (processes a + m.start) p q c d refl l r m.arrives;
    }

in_hide : (s : ℕ) (a : Behaviour) (p q c d : ℕ) → MeetsAs a p q c d → MeetsAs (hide s a) p q c d
in_hide s a p q c d m = record { first = m.first; second = m.second; start = m.start; stands = inr m.stands; arrives = m.arrives }

in_rename : (x y : ℕ) (a : Behaviour) (p q c d : ℕ) → MeetsAs a p q c d → MeetsAs (rename x y a) p q c d
in_rename x y a p q c d m = record { first = m.first; second = m.second; start = m.start; stands = inr m.stands; arrives = m.arrives }

-- one process in each part
upward : (a b : Behaviour) (p q c d : ℕ) → p < processes a → processes a ≤ q → q < processes a + processes b → climb a p c ≡ Some d → MeetsAs (parallel a b) p q c d
upward a b p q c d l r s e =
    record {
      first = a;
      second = b;
      start = 0;
      stands = inl (refl, refl);
      arrives = inl (record { from = omega arith; below = omega arith }, record { from = omega arith; below = omega arith }, out_moved a p (p - 0) c d (omega arith) (passes a p c d e));
    }

downward : (a b : Behaviour) (p q c d : ℕ) → processes a ≤ p → q < processes a → p < processes a + processes b → climb b (p - processes a) c ≡ Some d → MeetsAs (parallel a b) p q c d
downward a b p q c d l r s e =
    record {
      first = a;
      second = b;
      start = 0;
      stands = inl (refl, refl);
      arrives = inr (record { from = omega arith; below = omega arith }, record { from = omega arith; below = omega arith }, out_moved b (p - processes a) (p - (0 + processes a)) c d (omega arith) (passes b (p - processes a) c d e));
    }

pub side : (x y : ℕ) → (x < y) ⊎ (y ≤ x)
side x y = ⊎_elim (λ h. inl h.1) (λ h. inr (omega arith)) (leb_tells (suc x) y)

arrives : (b : Behaviour) (p q c d : ℕ) → p < processes b → q < processes b → meeting_channel b p q c ≡ Some d → MeetsAs b p q c d
arrives (process k) p q c d h k' e = absurd (let z : ◌≡◌ {A = ℕ} 0 1 = cc in omega arith)
arrives (parallel a b) p q c d h k e =
    ⊎_elim
    (λ l. ⊎_elim
    (λ r. in_first a b p q c d (arrives a p q c d l r (sym (first_met (parallel a b) a b refl p q c l r) ∙ e)))
    (λ r. upward a b p q c d l r k (sym (upward_met (parallel a b) a b refl p q c l r) ∙ e))
    (side q (processes a)))
    (λ l. ⊎_elim
    (λ r. downward a b p q c d l r h (sym (downward_met (parallel a b) a b refl p q c l r) ∙ e))
    (λ r. in_second a b p q c d l r (arrives b (p - processes a) (q - processes a) c d (omega arith) (omega arith) (sym (second_met (parallel a b) a b refl p q c l r) ∙ e)))
    (side q (processes a)))
    (side p (processes a))
arrives (hide s a) p q c d h k e = in_hide s a p q c d (arrives a p q c d h k e)
arrives (rename x y a) p q c d h k e = in_rename x y a p q c d (arrives a p q c d h k e)

pub meeting_laws : MeetingLaws
meeting_laws =
    record {
      arrives = arrives;
      is_arrival = λ b p q c d m. found_at b m.first m.second m.start p q c d m.stands m.arrives;
      stopped = λ b p q c h k no. none_left (meeting_channel b p q c) (λ d e. no d (arrives b p q c d h k e));
    }
