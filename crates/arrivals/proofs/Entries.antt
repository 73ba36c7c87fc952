-- The bytes of the table.
use Rattle.std.proofs.Common.{◌≡◌, ℕ, ◌+◌, ◌*◌, ◌<◌, ◌≤◌, Bool, true, false, cond, ◌&&◌, ltb, List, length, get_or, set, replicate, None, Option, sym, refl, subst, arith, ltb-true}
use lib.ListN.{get_or-replicate}
use Rattle.std.proofs.lemmas.List.FromFn.{fill_by_all}
use Rattle.std.proofs.lemmas.List.Edits.{fill_by_more}
use Rattle.commands.specs.Trees.{Behaviour}
use Rattle.arrivals.specs.Climbing.{arrival_entry, arrival_table, arrival_in}

-- a look-up within the bounds
within : (x y z : Bool) (v : Option ℕ) → (x ≡ true → y ≡ true → z ≡ true → v ≡ None) → cond (x && y && z) v None ≡ None
within true true true v h = h refl refl refl
within true true false v h = refl
within true false z v h = refl
within false y z v h = refl

pub none_arrives : (p to c : ℕ) → arrival_in (replicate 2304 None) p to c ≡ None
unfolding arrival_in
none_arrives p to c =
    within (ltb p 8) (ltb to 9) (ltb c 32) _ (λ x y z.
    get_or-replicate 2304 ((p * 9 + to) * 32 + c) None None (omega (arith, ltb-true p 8 x, ltb-true to 9 y, ltb-true c 32 z)))

-- the loop that writes them
pub one_more : (b : Behaviour) (xs : List (Option ℕ)) (i : ℕ) (v : Option ℕ) → i < length xs → v ≡ arrival_entry b i → ((k : ℕ) → k < i → get_or xs k None ≡ arrival_entry b k) → (k : ℕ) → k < i + 1 → get_or (set xs i v) k None ≡ arrival_entry b k
one_more b xs i v l e h = subst (λ w. (k : ℕ) → k < i + 1 → get_or (set xs i w) k None ≡ arrival_entry b k) (sym e) (fill_by_more (arrival_entry b) xs i None l h)

pub all_filled : (b : Behaviour) (xs : List (Option ℕ)) (i : ℕ) → length xs ≡ 2304 → 2304 ≤ i → ((k : ℕ) → k < i → get_or xs k None ≡ arrival_entry b k) → xs ≡ arrival_table b
unfolding arrival_table
all_filled b xs i l e h = fill_by_all (arrival_entry b) xs 2304 None l (λ k j. h k (omega arith))
