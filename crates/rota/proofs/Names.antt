-- Words that name no chooser.
use Rattle.std.proofs.Common.{◌≡◌, ℕ, zero, suc, ◌<◌, true, false, List, [], ◌∷◌, length, get_or, drop, vec_items, codes, sym, refl, ap, ◌∙◌, subst, arith, Bor}
use Rattle.std.proofs.lemmas.List.{get_or-map, length-map}
use Rattle.std.proofs.lemmas.Bool.{both_ways}
use Rattle.std.specs.Str.{bytes_eq}
use Rattle.rota.specs.declared.choice.Fair.{Fair}
use Rattle.rota.specs.declared.choice.Fair.TheVariants.{Rotation, Seniority}
use Rattle.rota.specs.declared.choice.Choice.{Choice}
use Rattle.rota.specs.declared.choice.Choice.TheVariants.{Script, Plain, Hold}
use Rattle.rota.specs.Choices.{Chooses, Numbers, fair_name}
use Rattle.rota.specs.Words.{Number, NoNumber, texts}

differ : (a b : List ℕ) → bytes_eq a a ≡ true → bytes_eq a b ≡ false → a ≡ b → ⊥
differ a b t f e = both_ways _ f (ap (bytes_eq a) (sym e) ∙ t)

script_fair : (f : Fair) → codes "script" ≡ fair_name f → ⊥
script_fair Rotation = differ _ _ refl refl
script_fair Seniority = differ _ _ refl refl

head : {a b : List ℕ} {xs ys : List (List ℕ)} → a ∷ xs ≡ b ∷ ys → a ≡ b
head e = ap (λ zs. get_or zs 0 []) e

number_at : (ws : List (List ℕ)) (ns : List ℕ) (i : ℕ) → i < length ws → Numbers ws ns → (n : ℕ) × Number 65535 (get_or ws i []) n
number_at [] ns i l h = absurd (omega arith)
number_at (w ∷ ws) [] i l h = absurd h
number_at (w ∷ ws) (n ∷ ns) zero l (here, _) = (n, here)
number_at (w ∷ ws) (n ∷ ns) (suc i) l (_, more) = number_at ws ns i (omega arith) more

-- a script with a word that is no number
pub no_script : (x : Bor (List ℕ)) (ws : List (Bor (List ℕ))) (i : ℕ) → i < length ws → NoNumber 65535 (get_or ws i x).now → (c : Choice) → Chooses (codes "script" ∷ texts ws) c → ⊥
no_script x ws i l none (Script ns) (rest, e, h) =
    let t : rest ≡ texts ws = sym (ap (drop 1) e) in
    let at = number_at (texts ws) (vec_items ns) i (rw length-map l) (subst (λ z. Numbers z (vec_items ns)) t h) in
    none at.0 (subst (λ z. Number 65535 z at.0) (get_or-map (λ x. x.now) ws i x [] l) at.1)
no_script x ws i l none (Plain f) e = script_fair f (head e)
no_script x ws i l none (Hold k f) (w, e, _) = differ (codes "script") (codes "hold") refl refl (head e)
