-- What the walk has written when it comes out of a command.
use Rattle.std.proofs.Common.{◌≡◌, ℕ, ◌+◌, ◌-◌, ◌*◌, ◌<◌, ◌≤◌, ⊎_elim, List, Some, None, Option, refl, sym, ap, ◌∙◌, subst, arith}
use Rattle.commands.specs.declared.behaviour.BehaviourCommand.{BehaviourCommand}
use Rattle.commands.specs.declared.behaviour.BehaviourCommand.TheVariants.{Hide, Rename}
use Rattle.commands.specs.Trees.{Behaviour, process, parallel, hide, rename}
use Rattle.admission.specs.Conditions.{processes}
use Rattle.arrivals.specs.Climbing.{climb, meeting_channel}
use Rattle.arrivals.specs.Filling.{told, past, RowWritten, RowsPast, Met, Filled, SameBefore}
use Rattle.arrivals.proofs.Below.{first_side, second_side, climb_first, climb_second}
use Rattle.arrivals.proofs.Meeting.{side, first_met, upward_met, downward_met, second_met}

-- what is told, at numbers that are equal
at_process : (t : List ℕ) (p q to c : ℕ) → p ≡ q → told t p to c ≡ told t q to c
at_process t p q to c e = ap (λ x. told t x to c) e

at_both : (t : List ℕ) (p q to o c : ℕ) → p ≡ q → to ≡ o → told t p to c ≡ told t q o c
at_both t p q to o c e f = ap (λ x. told t x to c) e ∙ ap (λ x. told t q x c) f

-- PROC
pub filled_process : (t u v : List ℕ) (first k : ℕ) → first < 8 → RowWritten t u (first * 9 + 8) (λ c. Some c) → RowWritten u v (first * 9 + first) (λ c. None) → Filled v first (process k)
filled_process t u v first k f w x =
    record {
      passes = λ p c h l.
          at_process v (first + p) first 8 c (omega arith)
          ∙ x.others (first * 9 + 8) c (omega arith) l
          ∙ w.written c l;
      meets = λ p q c h k l.
          at_both v (first + p) first (first + q) first c (omega arith) (omega arith) ∙ x.written c l;
    }

pub before_process : (t u v : List ℕ) (first : ℕ) (r s : ℕ → Option ℕ) → first < 8 → RowWritten t u (first * 9 + 8) r → RowWritten u v (first * 9 + first) s → SameBefore t v first
before_process t u v first r s f w x =
    record {
      passes = λ p c h l. x.others (p * 9 + 8) c (omega arith) l ∙ w.others (p * 9 + 8) c (omega arith) l;
      meets = λ p q c h k l. x.others (p * 9 + q) c (omega arith) l ∙ w.others (p * 9 + q) c (omega arith) l;
    }

-- PAR: the table when it has the first part, when it has the second too, and when they met
module _ (t u v : List ℕ) (a b : Behaviour) (first middle end : ℕ) where
  module _ (e : middle ≡ first + processes a) (g : end ≡ middle + processes b) (few : end ≤ 8) (x : Filled t first a) (s : SameBefore t u middle) (y : Filled u middle b) (m : Met u v first middle end) where
    first_passes : (p c : ℕ) → p < processes a → c < 32 → told u (first + p) 8 c ≡ climb a p c
    first_passes p c h l = s.passes (first + p) c (omega arith) l ∙ x.passes p c h l

    second_passes : (p c : ℕ) → processes a ≤ p → p < processes a + processes b → c < 32 → told u (first + p) 8 c ≡ climb b (p - processes a) c
    second_passes p c h k l = at_process u (first + p) (middle + (p - processes a)) 8 c (omega arith) ∙ y.passes (p - processes a) c (omega arith) l

    passes : (p c : ℕ) → p < processes a + processes b → c < 32 → told v (first + p) 8 c ≡ climb (parallel a b) p c
    passes p c h l =
        m.outside (first + p) c l
        ∙ ⊎_elim
        (λ k. climb_first (parallel a b) a b refl (processes a) refl p c p (told u (first + p) 8 c) (first_side p (processes a) k) (first_passes p c k l))
        (λ k. climb_second (parallel a b) a b refl (processes a) refl p c (p - processes a) (told u (first + p) 8 c) (second_side p (processes a) k) (second_passes p c k h l))
        (side p (processes a))

    meets : (p q c : ℕ) → p < processes a + processes b → q < processes a + processes b → c < 32 → told v (first + p) (first + q) c ≡ meeting_channel (parallel a b) p q c
    meets p q c h k l =
        ⊎_elim
        (λ i. ⊎_elim
        (λ j. m.first_part (first + p) (first + q) c (omega arith) (omega arith) l
        ∙ s.meets (first + p) (first + q) c (omega arith) (omega arith) l
        ∙ x.meets p q c i j l
        ∙ sym (first_met (parallel a b) a b refl p q c i j))
        (λ j. m.upward (first + p) (first + q) c (omega arith) (omega arith) (omega arith) (omega arith) l
        ∙ first_passes p c i l
        ∙ sym (upward_met (parallel a b) a b refl p q c i j))
        (side q (processes a)))
        (λ i. ⊎_elim
        (λ j. m.downward (first + p) (first + q) c (omega arith) (omega arith) (omega arith) (omega arith) l
        ∙ second_passes p c i h l
        ∙ sym (downward_met (parallel a b) a b refl p q c i j))
        (λ j. m.second_part (first + p) (first + q) c (omega arith) (omega arith) (omega arith) l
        ∙ at_both u (first + p) (middle + (p - processes a)) (first + q) (middle + (q - processes a)) c (omega arith) (omega arith)
        ∙ y.meets (p - processes a) (q - processes a) c (omega arith) (omega arith) l
        ∙ sym (second_met (parallel a b) a b refl p q c i j))
        (side q (processes a)))
        (side p (processes a))

    pub filled_parallel : Filled v first (parallel a b)
    filled_parallel = record { passes = passes; meets = meets }

  pub before_parallel : (o : List ℕ) → first ≤ middle → SameBefore o t first → SameBefore t u middle → Met u v first middle end → SameBefore o v first
  before_parallel o f r s m =
      record {
        passes = λ p c h l. m.outside p c l ∙ s.passes p c (omega arith) l ∙ r.passes p c h l;
        meets = λ p q c h k l. m.first_part p q c (omega arith) (omega arith) l ∙ s.meets p q c (omega arith) (omega arith) l ∙ r.meets p q c h k l;
      }

-- HIDE and RENAME
module _ (t u : List ℕ) (a : Behaviour) (first end : ℕ) (e : end ≡ first + processes a) (few : end ≤ 8) (x : Filled t first a) where
  pub filled_hide : (s : ℕ) → RowsPast t u first end (Hide s) → Filled u first (hide s a)
  filled_hide s r =
      record {
        passes = λ p c h l. r.passed (first + p) c (omega arith) (omega arith) l ∙ ap (past (Hide s)) (x.passes p c h l);
        meets = λ p q c h k l. r.meetings (first + p) (first + q) c (omega arith) l ∙ x.meets p q c h k l;
      }

  pub filled_rename : (y z : ℕ) → RowsPast t u first end (Rename y z) → Filled u first (rename y z a)
  filled_rename y z r =
      record {
        passes = λ p c h l. r.passed (first + p) c (omega arith) (omega arith) l ∙ ap (past (Rename y z)) (x.passes p c h l);
        meets = λ p q c h k l. r.meetings (first + p) (first + q) c (omega arith) l ∙ x.meets p q c h k l;
      }

pub before_past : (o t u : List ℕ) (first end : ℕ) (k : BehaviourCommand) → first ≤ end → end ≤ 8 → SameBefore o t first → RowsPast t u first end k → SameBefore o u first
before_past o t u first end k f few s r =
    record {
      passes = λ p c h l. r.before p c h l ∙ s.passes p c h l;
      meets = λ p q c h g l. r.meetings p q c (omega arith) l ∙ s.meets p q c h g l;
    }

-- the tree that stands there
pub filled_as : (t : List ℕ) (first : ℕ) (u v : Behaviour) → u ≡ v → Filled t first v → Filled t first u
filled_as t first u v e x = subst (λ w. Filled t first w) (sym e) x
