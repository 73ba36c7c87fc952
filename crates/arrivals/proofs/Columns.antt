-- The loops over the rows of some processes.
use Rattle.std.proofs.Common.{◌≡◌, ℕ, ◌+◌, ◌*◌, ◌<◌, ◌≤◌, ◌⊎◌, inl, inr, List, refl, ap, ◌∙◌, arith, below_more}
use Rattle.commands.specs.declared.behaviour.BehaviourCommand.{BehaviourCommand}
use Rattle.arrivals.specs.Filling.{in_row, told, past, RowWritten, RowsPast, Copied, Met}

-- no process passed, and one more
pub none_past : (t : List ℕ) (first : ℕ) (k : BehaviourCommand) → RowsPast t t first first k
none_past t first k =
    record {
      passed = λ p c a b l. absurd (omega arith);
      before = λ p c a l. refl;
      behind = λ p c a l. refl;
      meetings = λ p q c a l. refl;
    }

pub one_past : (t u v : List ℕ) (first p : ℕ) (k : BehaviourCommand) → first ≤ p → RowsPast t u first p k → RowWritten u v (p * 9 + 8) (λ c. past k (in_row u (p * 9 + 8) c)) → RowsPast t v first (p + 1) k
one_past t u v first p k o r w =
    record {
      passed = λ q c a b l.
          below_more (λ x. first ≤ x → told v x 8 c ≡ past k (told t x 8 c)) p
          (λ x h i. w.others (x * 9 + 8) c (omega arith) l ∙ r.passed x c i h l)
          (λ i. w.written c l ∙ ap (past k) (r.behind p c (omega arith) l))
          q b a;
      before = λ q c a l. w.others (q * 9 + 8) c (omega arith) l ∙ r.before q c a l;
      behind = λ q c a l. w.others (q * 9 + 8) c (omega arith) l ∙ r.behind q c (omega arith) l;
      meetings = λ q x c a l. w.others (q * 9 + x) c (omega arith) l ∙ r.meetings q x c a l;
    }

-- the source's column is none of those written
source_kept : (t u : List ℕ) (a b m n e s : ℕ) → (s < m) ⊎ (e ≤ s) → n ≤ e → s < 9 → Copied t u a b m n s → (p c : ℕ) → c < 32 → told u p s c ≡ told t p s c
source_kept t u a b m n e s (inl h) i k r p c l = r.left p s c h l
source_kept t u a b m n e s (inr h) i k r p c l = r.right p s c (omega arith) k l

pub no_cell : (t : List ℕ) (a b m s : ℕ) → Copied t t a b m m s
no_cell t a b m s =
    record {
      copied = λ p q c f g h i l. absurd (omega arith);
      before = λ p q c h k l. refl;
      behind = λ p q c h k l. refl;
      left = λ p q c h l. refl;
      right = λ p q c h k l. refl;
    }

pub one_cell : (t u v : List ℕ) (p m n e s : ℕ) → m ≤ n → n < e → e ≤ 8 → s < 9 → (s < m) ⊎ (e ≤ s) → Copied t u p (p + 1) m n s → RowWritten u v (p * 9 + n) (in_row u (p * 9 + s)) → Copied t v p (p + 1) m (n + 1) s
one_cell t u v p m n e s o i j k d r w =
    record {
      copied = λ r' q c f g h x l.
          let same : r' ≡ p = omega arith in
          ap (λ y. told v y q c) same
          ∙ below_more (λ y. m ≤ y → told v p y c ≡ told t p s c) n
          (λ y b a. w.others (p * 9 + y) c (omega arith) l ∙ r.copied p y c (omega arith) (omega arith) a b l)
          (λ a. w.written c l ∙ source_kept t u p (p + 1) m n e s d (omega arith) k r p c l)
          q x h
          ∙ ap (λ y. told t y s c) (let back : p ≡ r' = omega arith in back);
      before = λ q x c h y l. w.others (q * 9 + x) c (omega arith) l ∙ r.before q x c h y l;
      behind = λ q x c h y l. w.others (q * 9 + x) c (omega arith) l ∙ r.behind q x c h y l;
      left = λ q x c h l. w.others (q * 9 + x) c (omega arith) l ∙ r.left q x c h l;
      right = λ q x c h y l. w.others (q * 9 + x) c (omega arith) l ∙ r.right q x c (omega arith) y l;
    }

pub no_column : (t : List ℕ) (a m n s : ℕ) → Copied t t a a m n s
no_column t a m n s =
    record {
      copied = λ p q c f g h i l. absurd (omega arith);
      before = λ p q c h k l. refl;
      behind = λ p q c h k l. refl;
      left = λ p q c h l. refl;
      right = λ p q c h k l. refl;
    }

pub one_column : (t u v : List ℕ) (a p m n s : ℕ) → a ≤ p → n ≤ 8 → s < 9 → Copied t u a p m n s → Copied u v p (p + 1) m n s → Copied t v a (p + 1) m n s
one_column t u v a p m n s o z k r w =
    record {
      copied = λ x q c f g h i l.
          below_more (λ y. a ≤ y → told v y q c ≡ told t y s c) p
          (λ y b j. w.before y q c b (omega arith) l ∙ r.copied y q c j b h i l)
          (λ j. w.copied p q c (omega arith) (omega arith) h i l ∙ r.behind p s c (omega arith) k l)
          x g f;
      before = λ x q c h y l. w.before x q c (omega arith) y l ∙ r.before x q c h y l;
      behind = λ x q c h y l. w.behind x q c h y l ∙ r.behind x q c (omega arith) y l;
      left = λ x q c h l. w.left x q c h l ∙ r.left x q c h l;
      right = λ x q c h y l. w.right x q c h y l ∙ r.right x q c h y l;
    }

pub all_met : (t u v : List ℕ) (first middle end : ℕ) → first ≤ middle → middle ≤ end → end ≤ 8 → Copied t u first middle middle end 8 → Copied u v middle end first middle 8 → Met t v first middle end
all_met t u v first middle end f m e r w =
    record {
      upward = λ p q c a b g h l. w.before p q c b (omega arith) l ∙ r.copied p q c a b g h l;
      downward = λ p q c a b g h l. w.copied p q c a b g h l ∙ r.behind p 8 c a (omega arith) l;
      first_part = λ p q c a b l. w.before p q c a (omega arith) l ∙ r.left p q c b l;
      second_part = λ p q c a b h l. w.right p q c b h l ∙ r.behind p q c a h l;
      outside = λ p c l. w.right p 8 c (omega arith) (omega arith) l ∙ r.right p 8 c (omega arith) (omega arith) l;
    }
