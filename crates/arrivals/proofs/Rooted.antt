-- A channel passes the root exactly as what comes out of all commands above its PROC.
use Rattle.std.proofs.Common.{◌≡◌, ℕ, Bool, true, false, cond, eqb, List, [], ◌∷◌, ◌++◌, Some, None, Option, sym, refl, ap, ◌∙◌, subst, inl, inr, arith, eq-eqb, ne_eqb, eqb-true}
use borrow.Author.Tests.{eqb-false}
use Rattle.commands.specs.Trees.{Behaviour, process, parallel, hide, rename}
use Rattle.admission.specs.Conditions.{processes}
use Rattle.commands.specs.Sets.{in_set}
use Rattle.arrivals.specs.Climbing.{Side, First, Second, side_of, by_side, past_hide, past_rename, climb}
use Rattle.arrivals.specs.Laws.{RootLaws}
use Rattle.arrivals.specs.Ways.{Passed, par, hides, renames, Passes, ComesOut, way}

-- one command more
more : (ms : List Passed) (m : Passed) (c e d : ℕ) → ComesOut ms c e → Passes m e d → ComesOut (ms ++ (m ∷ [])) c d
more [] m c e d t p = (d, subst (λ x. Passes m x d) t p, refl)
more (k ∷ ms) m c e d t p = (t.0, t.1, more ms m t.0 e d t.2 p)

last : (ms : List Passed) (m : Passed) (c d : ℕ) → ComesOut (ms ++ (m ∷ [])) c d → (e : ℕ) × ComesOut ms c e × Passes m e d
last [] m c d t = (c, refl, subst (λ x. Passes m c x) (sym t.2) t.1)
last (k ∷ ms) m c d t = let p = last ms m t.0 d t.2 in (p.0, (t.0, t.1, p.1), p.2)

none_some : {A : Type 0} (d : ℕ) → ◌≡◌ {A = Option ℕ} None (Some d) → A
none_some d e = absurd (let z : ◌≡◌ {A = ℕ} 0 1 = cc in omega arith)

-- out of a HIDE
hidden : (t : Bool) (x d : ℕ) → cond t None (Some x) ≡ Some d → (t ≡ false) × (d ≡ x)
hidden true x d e = none_some d e
hidden false x d e = (refl, cc)

past_hidden : (s : ℕ) (r : Option ℕ) (d : ℕ) → past_hide s r ≡ Some d → (e : ℕ) × (r ≡ Some e) × Passes (hides s) e d
past_hidden s None d e = none_some d e
past_hidden s (Some x) d e = (x, refl, hidden (in_set s x) x d e)

hide_passed : (s : ℕ) (r : Option ℕ) (e d : ℕ) → r ≡ Some e → Passes (hides s) e d → past_hide s r ≡ Some d
hide_passed s r e d h p = ap (past_hide s) h ∙ rw (p.0, p.1)

-- out of a RENAME
turned : (t : Bool) (x y e d : ℕ) → t ≡ eqb e x → cond t (Some y) (Some e) ≡ Some d → Passes (renames x y) e d
turned true x y e d t h = inl (eqb-true e x (sym t), cc)
turned false x y e d t h = inr (eqb-false e x (sym t), cc)

past_renamed : (x y : ℕ) (r : Option ℕ) (d : ℕ) → past_rename x y r ≡ Some d → (e : ℕ) × (r ≡ Some e) × Passes (renames x y) e d
past_renamed x y None d h = none_some d h
past_renamed x y (Some e) d h = (e, refl, turned (eqb e x) x y e d refl h)

rename_passed : (x y : ℕ) (r : Option ℕ) (e d : ℕ) → r ≡ Some e → Passes (renames x y) e d → past_rename x y r ≡ Some d
rename_passed x y r e d h (inl p) = ap (past_rename x y) h ∙ rw (eq-eqb e x p.0, p.1)
rename_passed x y r e d h (inr p) = ap (past_rename x y) h ∙ rw (ne_eqb e x p.0, p.1)

-- through the one part of a PAR or the other
split : (t : Side) (f g : ℕ → Option ℕ) (v w : ℕ → List Passed) (c d : ℕ) → ((i : ℕ) → f i ≡ Some d → ComesOut (v i) c d) → ((i : ℕ) → g i ≡ Some d → ComesOut (w i) c d) → by_side f g t ≡ Some d → ComesOut (by_side v w t) c d
split (First i) f g v w c d l r h = l i h
split (Second i) f g v w c d l r h = r i h

joined : (t : Side) (f g : ℕ → Option ℕ) (v w : ℕ → List Passed) (c d : ℕ) → ((i : ℕ) → ComesOut (v i) c d → f i ≡ Some d) → ((i : ℕ) → ComesOut (w i) c d → g i ≡ Some d) → ComesOut (by_side v w t) c d → by_side f g t ≡ Some d
joined (First i) f g v w c d l r h = l i h
joined (Second i) f g v w c d l r h = r i h

pub passes : (b : Behaviour) (p c d : ℕ) → climb b p c ≡ Some d → ComesOut (way b p) c d
passes (process k) p c d h = cc
passes (parallel a b) p c d h =
    more (by_side (way a) (way b) (side_of p (processes a))) par c d d
    (split (side_of p (processes a)) (λ i. climb a i c) (λ i. climb b i c) (way a) (way b) c d (λ i. passes a i c d) (λ i. passes b i c d) h)
    refl
passes (hide s a) p c d h = let o = past_hidden s (climb a p c) d h in more (way a p) (hides s) c o.0 d (passes a p c o.0 o.1) o.2
passes (rename x y a) p c d h = let o = past_renamed x y (climb a p c) d h in more (way a p) (renames x y) c o.0 d (passes a p c o.0 o.1) o.2

pub is_passed : (b : Behaviour) (p c d : ℕ) → ComesOut (way b p) c d → climb b p c ≡ Some d
is_passed (process k) p c d h = ap (λ x. Some x) (sym h)
is_passed (parallel a b) p c d h =
    let o = last (by_side (way a) (way b) (side_of p (processes a))) par c d h in
    joined (side_of p (processes a)) (λ i. climb a i c) (λ i. climb b i c) (way a) (way b) c d (λ i. is_passed a i c d) (λ i. is_passed b i c d)
    (subst (λ x. ComesOut (by_side (way a) (way b) (side_of p (processes a))) c x) (sym o.2) o.1)
is_passed (hide s a) p c d h = let o = last (way a p) (hides s) c d h in hide_passed s (climb a p c) o.0 d (is_passed a p c o.0 o.1) o.2
is_passed (rename x y a) p c d h = let o = last (way a p) (renames x y) c d h in rename_passed x y (climb a p c) o.0 d (is_passed a p c o.0 o.1) o.2

pub none_left : (r : Option ℕ) → ((d : ℕ) → r ≡ Some d → ⊥) → r ≡ None
none_left None h = refl
none_left (Some d) h = absurd (h d refl)

pub root_laws : RootLaws
root_laws = record { passes = passes; is_passed = is_passed; stopped = λ b p c h. none_left (climb b p c) (λ d e. h d (passes b p c d e)) }
