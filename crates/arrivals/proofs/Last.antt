-- A number past the last process counts as the last.
use Rattle.std.proofs.Common.{◌≡◌, ◌≢◌, ℕ, ◌+◌, ◌-◌, ◌*◌, ◌<◌, ◌≤◌, ⊎_elim, List, refl, sym, ap, ◌∙◌, arith, below_more}
use Rattle.commands.specs.Trees.{Behaviour, process, parallel, hide, rename}
use Rattle.admission.specs.Conditions.{processes}
use Rattle.arrivals.specs.Climbing.{climb, meeting_channel, past_hide, past_rename}
use Rattle.arrivals.specs.Filling.{in_row, told, RowWritten, Copied, SameProcess, LastRepeated}
use Rattle.arrivals.proofs.Below.{second_side, climb_second}
use Rattle.arrivals.proofs.Meeting.{side, upward_met, downward_met, second_met}

-- every behaviour has a process
pub some_process : (b : Behaviour) → 0 < processes b
some_process (process k) = omega arith
some_process (parallel a b) = omega (arith, some_process a)
some_process (hide s a) = some_process a
some_process (rename x y a) = some_process a

second_climb : (a b : Behaviour) (p c : ℕ) → processes a ≤ p → climb b (p - processes a) c ≡ climb (parallel a b) p c
second_climb a b p c h = climb_second (parallel a b) a b refl (processes a) refl p c (p - processes a) _ (second_side p (processes a) h) refl

-- two numbers from the last process on
pub last_climbs : (b : Behaviour) (p q c : ℕ) → processes b ≤ p + 1 → processes b ≤ q + 1 → climb b p c ≡ climb b q c
last_climbs (process k) p q c h i = refl
last_climbs (parallel a b) p q c h i =
    let some = some_process b in
    sym (second_climb a b p c (omega arith))
    ∙ last_climbs b (p - processes a) (q - processes a) c (omega arith) (omega arith)
    ∙ second_climb a b q c (omega arith)
last_climbs (hide s a) p q c h i = ap (past_hide s) (last_climbs a p q c h i)
last_climbs (rename x y a) p q c h i = ap (past_rename x y) (last_climbs a p q c h i)

pub last_meets : (b : Behaviour) (p q r c : ℕ) → processes b ≤ p + 1 → processes b ≤ q + 1 → meeting_channel b p r c ≡ meeting_channel b q r c
last_meets (process k) p q r c h i = refl
last_meets (parallel a b) p q r c h i =
    let some = some_process b in
    ⊎_elim
    (λ j. downward_met (parallel a b) a b refl p r c (omega arith) j
    ∙ last_climbs b (p - processes a) (q - processes a) c (omega arith) (omega arith)
    ∙ sym (downward_met (parallel a b) a b refl q r c (omega arith) j))
    (λ j. second_met (parallel a b) a b refl p r c (omega arith) j
    ∙ last_meets b (p - processes a) (q - processes a) (r - processes a) c (omega arith) (omega arith)
    ∙ sym (second_met (parallel a b) a b refl q r c (omega arith) j))
    (side r (processes a))
last_meets (hide s a) p q r c h i = last_meets a p q r c h i
last_meets (rename x y a) p q r c h i = last_meets a p q r c h i

pub meets_last : (b : Behaviour) (p q r c : ℕ) → processes b ≤ p + 1 → processes b ≤ q + 1 → meeting_channel b r p c ≡ meeting_channel b r q c
meets_last (process k) p q r c h i = refl
meets_last (parallel a b) p q r c h i =
    let some = some_process b in
    ⊎_elim
    (λ j. upward_met (parallel a b) a b refl r p c j (omega arith)
    ∙ sym (upward_met (parallel a b) a b refl r q c j (omega arith)))
    (λ j. second_met (parallel a b) a b refl r p c j (omega arith)
    ∙ meets_last b (p - processes a) (q - processes a) (r - processes a) c (omega arith) (omega arith)
    ∙ sym (second_met (parallel a b) a b refl r q c j (omega arith)))
    (side r (processes a))
meets_last (hide s a) p q r c h i = meets_last a p q r c h i
meets_last (rename x y a) p q r c h i = meets_last a p q r c h i

-- the loop over the columns of a process
pub record ProcessPart (t u : List ℕ) (l p n : ℕ) : Type 0 where
  pub same : (q c : ℕ) → q < n → c < 32 → told u p q c ≡ told t l q c
  pub others : (r q c : ℕ) → r ≢ p → q < 9 → c < 32 → told u r q c ≡ told t r q c

pub no_part : (t : List ℕ) (l p : ℕ) → ProcessPart t t l p 0
no_part t l p = record { same = λ q c h k. absurd (omega arith); others = λ r q c h k m. refl }

pub one_part : (t u v : List ℕ) (l p n : ℕ) → l ≢ p → n < 9 → ProcessPart t u l p n → RowWritten u v (p * 9 + n) (in_row u (l * 9 + n)) → ProcessPart t v l p (n + 1)
one_part t u v l p n d h x w =
    record {
      same = λ q c k m.
          below_more (λ y. told v p y c ≡ told t l y c) n
          (λ y b. w.others (p * 9 + y) c (omega arith) m ∙ x.same y c b m)
          (w.written c m ∙ x.others l n c d h m)
          q k;
      others = λ r q c k i m. w.others (r * 9 + q) c (omega arith) m ∙ x.others r q c k i m;
    }

-- the loop over the numbers past the last process
pub record RepeatedTo (t u : List ℕ) (n i : ℕ) : Type 0 where
  pub same : (p q c : ℕ) → n ≤ p → p < i → q < 9 → c < 32 → told u p q c ≡ told t (n - 1) q c
  pub others : (p q c : ℕ) → p < n → q < 9 → c < 32 → told u p q c ≡ told t p q c

pub none_repeated : (t : List ℕ) (n : ℕ) → RepeatedTo t t n n
none_repeated t n = record { same = λ p q c h k l m. absurd (omega arith); others = λ p q c h k l. refl }

pub one_repeated : (t u v : List ℕ) (n i : ℕ) → 0 < n → n ≤ i → RepeatedTo t u n i → SameProcess u v (n - 1) i → RepeatedTo t v n (i + 1)
one_repeated t u v n i h o x s =
    record {
      same = λ p q c j k l m.
          below_more (λ y. n ≤ y → told v y q c ≡ told t (n - 1) q c) i
          (λ y b a. s.others y q c (omega arith) l m ∙ x.same y q c a b l m)
          (λ a. s.same q c l m ∙ x.others (n - 1) q c (omega arith) l m)
          p k j;
      others = λ p q c k l m. s.others p q c (omega arith) l m ∙ x.others p q c k l m;
    }

pub all_repeated : (t u v : List ℕ) (n i : ℕ) → 0 < n → n ≤ 8 → 8 ≤ i → Copied t u 0 n n 8 (n - 1) → RepeatedTo u v n i → LastRepeated t v n
all_repeated t u v n z h k y w x =
    record {
      meetings = λ p q c i j l. x.others p q c i (omega arith) l ∙ w.left p q c j l;
      outside = λ p c i l. x.others p 8 c i (omega arith) l ∙ w.right p 8 c (omega arith) (omega arith) l;
      partners = λ p q c i j m l. x.others p q c i (omega arith) l ∙ w.copied p q c (omega arith) i j m l;
      processes = λ p q c i j m l. x.same p q c i (omega arith) m l ∙ sym (x.others (n - 1) q c (omega arith) m l);
    }
