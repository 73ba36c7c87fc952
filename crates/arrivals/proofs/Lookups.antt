-- The table has every arrival.
use Rattle.std.proofs.Common.{◌≡◌, ℕ, ◌+◌, ◌*◌, ◌/◌, ◌%◌, ◌<◌, Bool, true, false, cond, eqb, get_or, IfSome, Some, None, Option, ◌∙◌, subst, arith, lt-ltb, ne_eqb}
use Rattle.std.proofs.lemmas.Nat.{div-mul-add, mod-mul-add}
use Rattle.std.proofs.lemmas.List.FromFn.{get_or-map-range_with_len}
use Rattle.commands.specs.Trees.{Behaviour, process, parallel, hide, rename}
use Rattle.admission.specs.Conditions.{BehaviourKept, processes}
use Rattle.commands.specs.Sets.{in_set}
use Rattle.arrivals.specs.Climbing.{Side, First, Second, side_of, by_side, past_hide, past_rename, climb, meeting_channel, arrival, arrival_entry, arrival_table, arrival_in}
use Rattle.arrivals.specs.Laws.{TableLaws}

abbrev Small : Option ℕ → Type 0
Small r = IfSome r (λ d. d < 32)

either : (t : Bool) (r s : Option ℕ) → Small r → Small s → Small (cond t r s)
either true r s h k = h
either false r s h k = k

by_part : (t : Side) (f g : ℕ → Option ℕ) → ((i : ℕ) → Small (f i)) → ((i : ℕ) → Small (g i)) → Small (by_side f g t)
by_part (First i) f g h k = h i
by_part (Second i) f g h k = k i

hide_small : (s : ℕ) (r : Option ℕ) → Small r → Small (past_hide s r)
hide_small s None h = tt
hide_small s (Some d) h = either (in_set s d) None (Some d) tt h

rename_small : (x y : ℕ) (r : Option ℕ) → y < 32 → Small r → Small (past_rename x y r)
rename_small x y None k h = tt
rename_small x y (Some d) k h = either (eqb d x) (Some y) (Some d) k h

climb_small : (n : ℕ) (b : Behaviour) (p c : ℕ) → BehaviourKept n b → c < 32 → Small (climb b p c)
climb_small n (process k) p c h l = l
climb_small n (parallel a b) p c h l = by_part (side_of p (processes a)) (λ i. climb a i c) (λ i. climb b i c) (λ i. climb_small n a i c h.0 l) (λ i. climb_small n b i c h.1 l)
climb_small n (hide s a) p c h l = hide_small s (climb a p c) (climb_small n a p c h.1 l)
climb_small n (rename x y a) p c h l = rename_small x y (climb a p c) h.1 (climb_small n a p c h.2 l)

meeting_small : (n : ℕ) (b : Behaviour) (p q c : ℕ) → BehaviourKept n b → c < 32 → Small (meeting_channel b p q c)
meeting_small n (process k) p q c h l = tt
meeting_small n (parallel a b) p q c h l =
    by_part (side_of p (processes a)) _ _
    (λ i. by_part (side_of q (processes a)) (λ j. meeting_channel a i j c) (λ j. climb a i c) (λ j. meeting_small n a i j c h.0 l) (λ j. climb_small n a i c h.0 l))
    (λ i. by_part (side_of q (processes a)) (λ j. climb b i c) (λ j. meeting_channel b i j c) (λ j. climb_small n b i c h.1 l) (λ j. meeting_small n b i j c h.1 l))
meeting_small n (hide s a) p q c h l = meeting_small n a p q c h.1 l
meeting_small n (rename x y a) p q c h l = meeting_small n a p q c h.2 l

small_of : (r : Option ℕ) (d : ℕ) → Small r → r ≡ Some d → d < 32
small_of r d h e = subst Small e h

-- the index of an arrival says which it is
index_channel : (p to c : ℕ) → c < 32 → ((p * 9 + to) * 32 + c) % 32 ≡ c
index_channel p to c h = mod-mul-add (p * 9 + to) 32 c h

index_row : (p to c : ℕ) → c < 32 → ((p * 9 + to) * 32 + c) / 32 ≡ p * 9 + to
index_row p to c h = div-mul-add (p * 9 + to) 32 c h

entry_at : (b : Behaviour) (p to c : ℕ) → to < 9 → c < 32 → arrival_entry b ((p * 9 + to) * 32 + c) ≡ arrival b p to c
entry_at b p to c k l = rw (index_row p to c l, index_channel p to c l, div-mul-add p 9 to k, mod-mul-add p 9 to k)

table_at : (b : Behaviour) (i : ℕ) → i < 2304 → get_or (arrival_table b) i None ≡ arrival_entry b i
unfolding arrival_table
table_at b i h = get_or-map-range_with_len (arrival_entry b) 0 2304 i i None h (omega arith)

looked_up : (b : Behaviour) (p to c : ℕ) → p < 8 → to < 9 → c < 32 → arrival_in (arrival_table b) p to c ≡ arrival b p to c
unfolding arrival_in
looked_up b p to c h k l =
    rw (lt-ltb p 8 h, lt-ltb to 9 k, lt-ltb c 32 l)
    (table_at b ((p * 9 + to) * 32 + c) (omega arith) ∙ entry_at b p to c k l)

not_outside : (b : Behaviour) (p q c : ℕ) → q < 8 → arrival b p q c ≡ meeting_channel b p q c
not_outside b p q c h = rw (ne_eqb q 8 (omega arith))

pub table_laws : TableLaws
table_laws =
    record {
      meeting = λ n b p q c k h j l. looked_up b p q c h (omega arith) l ∙ not_outside b p q c j;
      outside = λ n b p c k h l. looked_up b p 8 c h (omega arith) l;
      small_meeting = λ n b p q c d k l e. small_of _ d (meeting_small n b p q c k l) e;
      small_outside = λ n b p c d k l e. small_of _ d (climb_small n b p c k l) e;
    }
