-- Words by their places, and values read one after another.
use Rattle.std.proofs.Common.{◌≡◌, ℕ, zero, suc, ◌+◌, ◌-◌, ◌<◌, ◌≤◌, List, [], ◌∷◌, ◌++◌, length, map, get_or, take, drop, Ok, Err, Result, Bor, sym, ap, ap₂, ◌∙◌, subst, arith, length-drop}
use Rattle.std.proofs.lemmas.List.{map-append, take_more, take_all, drop-map}
use Rattle.records.specs.declared.step.Step.{Step}
use Rattle.rota.specs.Words.{texts}
use Rattle.values.specs.declared.row.Row.{Row}
use Rattle.values.specs.declared.value.TextFault.{TextFault}
use Rattle.session.specs.Operands.{Fields, StepFields, read_row, ValueWords, TableRoom, BudgetRoom}

abbrev At : Bor (List ℕ) → List (Bor (List ℕ)) → Step → Type 0
At x ws s = Fields (get_or ws 0 x).now (get_or ws 1 x).now (get_or ws 2 x).now (get_or ws 3 x).now (get_or ws 4 x).now (get_or ws 5 x).now (get_or ws 6 x).now s

-- words that write the fields of a step, by their places
pub fields : (x : Bor (List ℕ)) (ws : List (Bor (List ℕ))) (s : Step) → StepFields (texts ws) s → At x ws s
fields x (a ∷ b ∷ c ∷ d ∷ e ∷ f ∷ g ∷ ws) s h = h.1
fields x [] s h = let n = h.0 in absurd (omega arith)
fields x (a ∷ []) s h = let n = h.0 in absurd (omega arith)
fields x (a ∷ b ∷ []) s h = let n = h.0 in absurd (omega arith)
fields x (a ∷ b ∷ c ∷ []) s h = let n = h.0 in absurd (omega arith)
fields x (a ∷ b ∷ c ∷ d ∷ []) s h = let n = h.0 in absurd (omega arith)
fields x (a ∷ b ∷ c ∷ d ∷ e ∷ []) s h = let n = h.0 in absurd (omega arith)
fields x (a ∷ b ∷ c ∷ d ∷ e ∷ f ∷ []) s h = let n = h.0 in absurd (omega arith)

-- one word more that writes a value
module _ (ws : List (Bor (List ℕ))) (i : ℕ) (rows : List Row) (before : ValueWords (texts (take i ws)) rows) where
  pub rows_more : (d : Bor (List ℕ)) (r : Row) (rows' : List Row) → i < length ws → read_row (get_or ws i d).now ≡ Ok r → rows' ≡ rows ++ r ∷ [] → ValueWords (texts (take (i + 1) ws)) rows'
  rows_more d r rows' l h e =
      let words = map-append (λ (w : Bor (List ℕ)). w.now) (take i ws) (get_or ws i d ∷ []) in
      ap (λ xs. map read_row (texts xs)) (take_more ws i d l)
      ∙ ap (map read_row) words
      ∙ map-append read_row (texts (take i ws)) ((get_or ws i d).now ∷ [])
      ∙ ap₂ (λ xs ys. xs ++ ys) before (ap (λ y. y ∷ []) h)
      ∙ sym (map-append (λ (x : Row). Ok x) rows (r ∷ []))
      ∙ sym (ap (map (λ (x : Row). Ok x)) e)

  pub rows_all : length ws ≤ i → ValueWords (texts ws) rows
  rows_all l = subst (λ xs. ValueWords (texts xs) rows) (take_all i ws l) before

-- a word that writes none
pub no_rows : (ws : List (Bor (List ℕ))) (i : ℕ) (d : Bor (List ℕ)) (e : TextFault) → i < length ws → read_row (get_or ws i d).now ≡ Err e → (rows : List Row) → ValueWords (texts ws) rows → ⊥
no_rows [] i d e l h rows v = absurd (omega arith)
no_rows (w ∷ ws) i d e l h [] v = cc v
no_rows (w ∷ ws) zero d e l h (r ∷ rows) v =
    let here : read_row w.now ≡ Ok r = ap (λ (xs : List (Result Row TextFault)). get_or xs 0 (Err e)) v in
    cc (h, here)
no_rows (w ∷ ws) (suc i) d e l h (r ∷ rows) v = no_rows ws i d e (omega arith) h rows (ap (drop 1) v)

-- the words behind the first, as a function has them
rest_of : (x : Bor (List ℕ)) (ws : List (Bor (List ℕ))) → take (length (x ∷ ws) - 1) ws ≡ ws
rest_of x ws = take_all (length (x ∷ ws) - 1) ws (omega arith)

pub room_behind : (ws : List (Bor (List ℕ))) (budget room : ℕ) → BudgetRoom (texts ws) budget room → TableRoom (texts (take (length ws - 1) (drop 1 ws))) room
room_behind [] budget room (w, rest, e, n, t) = cc e
room_behind (x ∷ ws) budget room (w, rest, e, n, t) =
    subst (λ z. TableRoom (texts z) room) (sym (rest_of x ws)) (subst (λ z. TableRoom z room) (sym (ap (drop 1) e)) t)

pub values_behind : (ws : List (Bor (List ℕ))) (rows : List Row) → ValueWords (drop 7 (texts ws)) rows → ValueWords (texts (take (length ws - 7) (drop 7 ws))) rows
values_behind ws rows h =
    let all : take (length ws - 7) (drop 7 ws) ≡ drop 7 ws = take_all (length ws - 7) (drop 7 ws) (omega (arith, length-drop 7 ws)) in
    subst (λ z. ValueWords (texts z) rows) (sym all) (subst (λ z. ValueWords z rows) (drop-map (λ (w : Bor (List ℕ)). w.now) 7 ws) h)
