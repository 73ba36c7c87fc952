-- Values stored in variables, one after the other.
use Rattle.std.proofs.Common.{◌≡◌, ℕ, zero, suc, ◌+◌, ◌<◌, ◌≤◌, List, [], ◌∷◌, length, get_or, take, drop, set, sym, refl, ap, ◌∙◌, arith}
use Rattle.std.proofs.lemmas.List.{at_drop_more, at_drop_all, map-set}
use Rattle.values.specs.declared.row.Row.{Row}
use Rattle.values.specs.Rows.{value_of_row}
use Rattle.values.specs.Values.{Val}
use Rattle.processes.specs.Classes.{stored, after}
use Rattle.processes.specs.declared.front.Action.{Action as ActionC}
use Rattle.processes.specs.declared.front.Action.TheVariants.{Internal, Store, Send, Receive}
use Rattle.processes.specs.Found.{own_work}
use Rattle.processes.specs.Fronts.{Action, internal, sends, receives}
use Rattle.processes.specs.Evaluation.{values_of}

-- nothing is stored where no values are left
pub stored_none : (vs : List Val) (ws : List ℕ) → stored vs ws [] ≡ vs
stored_none vs [] = refl
stored_none vs (w ∷ ws) = refl

module _ (rows : List Row) (targets : List ℕ) (got : List Row) (i : ℕ) where
  pub stored_one : i < length targets → i < length got → (d : Row) → stored (values_of (set rows (get_or targets i 0) (get_or got i d))) (drop (i + 1) targets) (values_of (drop (i + 1) got)) ≡ stored (values_of rows) (drop i targets) (values_of (drop i got))
  stored_one h k d =
      let x = get_or got i d in
      let w = get_or targets i 0 in
      ap (λ vs. stored vs (drop (i + 1) targets) (values_of (drop (i + 1) got))) (map-set value_of_row rows w x)
      ∙ sym (at_drop_more (λ ws. stored (values_of rows) ws (values_of (drop i got))) targets i 0 h
      ∙ at_drop_more (λ gs. stored (values_of rows) (w ∷ drop (i + 1) targets) (values_of gs)) got i d k)

  pub stored_out : length got ≤ i → stored (values_of rows) (drop (i + 1) targets) (values_of (drop (i + 1) got)) ≡ stored (values_of rows) (drop i targets) (values_of (drop i got))
  stored_out h =
      at_drop_all (λ gs. stored (values_of rows) (drop (i + 1) targets) (values_of gs)) got (i + 1) (omega (arith, h))
      ∙ stored_none (values_of rows) (drop (i + 1) targets)
      ∙ sym (at_drop_all (λ gs. stored (values_of rows) (drop i targets) (values_of gs)) got i h ∙ stored_none (values_of rows) (drop i targets))

-- the first variables after a store are those of the first
take_set : (n : ℕ) (vs : List Val) (w : ℕ) (x : Val) → take n (set vs w x) ≡ set (take n vs) w x
take_set zero [] w x = refl
take_set zero (v ∷ vs) zero x = refl
take_set zero (v ∷ vs) (suc w) x = refl
take_set (suc n) [] w x = refl
take_set (suc n) (v ∷ vs) zero x = refl
take_set (suc n) (v ∷ vs) (suc w) x = ap (λ us. v ∷ us) (take_set n vs w x)

take_stored : (n : ℕ) (vs : List Val) (ws : List ℕ) (got : List Val) → take n (stored vs ws got) ≡ stored (take n vs) ws got
take_stored n vs [] got = refl
take_stored n vs (w ∷ ws) [] = refl
take_stored n vs (w ∷ ws) (x ∷ got) = take_stored n (set vs w x) ws got ∙ ap (λ us. stored us ws got) (take_set n vs w x)

pub take_own_work : (n : ℕ) (vs : List Val) (a : ActionC) → take n (own_work vs a) ≡ own_work (take n vs) a
take_own_work n vs Internal = refl
take_own_work n vs (Store v row) = take_set n vs v (value_of_row row)
take_own_work n vs (Send c m s) = refl
take_own_work n vs (Receive c m t) = refl

pub take_after : (n : ℕ) (vs : List Val) (a : Action) (got : List Val) → take n (after vs a got) ≡ after (take n vs) a got
take_after n vs internal got = refl
take_after n vs (sends c m xs) got = refl
take_after n vs (receives c m ws) got = take_stored n vs ws got
