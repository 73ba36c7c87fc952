-- Channels as bytes of the table.
use Rattle.std.proofs.Common.{◌≡◌, ◌≢◌, ℕ, zero, suc, ◌<◌, ◌⊎◌, inl, inr, ⊎_elim, Bool, true, false, cond, eqb, List, ◌∷◌, map, replicate, Some, None, Option, refl, sym, ap, ◌∙◌, arith, ne_eqb, eq-eqb, eqb-true, lt-ltb, ◌+◌, ◌*◌, length, get_or}
use Rattle.std.proofs.lemmas.List.{get_or-map}
use Rattle.commands.specs.Sets.{in_set}
use Rattle.arrivals.specs.Bytes.{channel_of}
use Rattle.arrivals.specs.Climbing.{arrival_in, past_hide, past_rename}

pub none_form : channel_of 255 ≡ None
unfolding channel_of
none_form = refl

pub some_form : (d : ℕ) → d < 255 → channel_of d ≡ Some d
unfolding channel_of
some_form d h = rw (ne_eqb d 255 (omega arith))

pub nones : (n : ℕ) → map channel_of (replicate n 255) ≡ replicate n None
nones zero = refl
nones (suc n) = ap (λ x. x ∷ map channel_of (replicate n 255)) none_form ∙ ap (λ xs. None ∷ xs) (nones n)

-- a byte is 255, or stands for itself
form_by : (d : ℕ) (b : Bool) → eqb d 255 ≡ b → ((d ≡ 255) × (cond b None (Some d) ≡ None)) ⊎ (cond b None (Some d) ≡ Some d)
form_by d true e = inl (eqb-true d 255 e, refl)
form_by d false e = inr refl

form : (d : ℕ) → ((d ≡ 255) × (channel_of d ≡ None)) ⊎ (channel_of d ≡ Some d)
unfolding channel_of
form d = form_by d (eqb d 255) refl

-- past a HIDE
pub hide_stops : (s d : ℕ) → in_set s d ≡ true → channel_of 255 ≡ past_hide s (channel_of d)
hide_stops s d h = none_form ∙ sym (⊎_elim (λ e. ap (past_hide s) e.1) (λ e. ap (past_hide s) e ∙ rw h) (form d))

pub hide_passes : (s d : ℕ) → in_set s d ≡ false → channel_of d ≡ past_hide s (channel_of d)
hide_passes s d h = ⊎_elim (λ e. e.1 ∙ sym (ap (past_hide s) e.1)) (λ e. e ∙ sym (ap (past_hide s) e ∙ rw h)) (form d)

-- past a RENAME
pub rename_turns : (x y d : ℕ) → x < 32 → y < 32 → d ≡ x → channel_of y ≡ past_rename x y (channel_of d)
rename_turns x y d h k e = some_form y (omega arith) ∙ sym (ap (past_rename x y) (some_form d (omega arith)) ∙ rw (eq-eqb d x e))

pub rename_passes : (x y d : ℕ) → d ≢ x → channel_of d ≡ past_rename x y (channel_of d)
rename_passes x y d h = ⊎_elim (λ e. e.1 ∙ sym (ap (past_rename x y) e.1)) (λ e. e ∙ sym (ap (past_rename x y) e ∙ rw (ne_eqb d x h))) (form d)

-- a look-up reads a byte
pub byte_read : (ds : List ℕ) (ts : List (Option ℕ)) (p to c : ℕ) → map channel_of ds ≡ ts → (p * 9 + to) * 32 + c < length ds → p < 8 → to < 9 → c < 32 → channel_of (get_or ds ((p * 9 + to) * 32 + c) 0) ≡ arrival_in ts p to c
unfolding arrival_in
byte_read ds ts p to c e h k l m =
    sym (get_or-map channel_of ds ((p * 9 + to) * 32 + c) 0 None h)
    ∙ ap (λ x. get_or x ((p * 9 + to) * 32 + c) None) e
    ∙ sym (rw (lt-ltb p 8 k, lt-ltb to 9 l, lt-ltb c 32 m))
