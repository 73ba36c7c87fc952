-- The expressions of a SEND, some of them passed and the rest ahead.
use Rattle.std.proofs.Common.{◌≡◌, ℕ, ◌+◌, ◌-◌, ◌<◌, List, [], ◌∷◌, ◌++◌, map, length, sym, ap, ◌∙◌, subst, append_assoc, append-nil, arith}
use mathlib.Core.List.{map-append}
use Rattle.values.specs.declared.row.Row.{Row}
use Rattle.values.specs.Rows.{value_of_row}
use Rattle.values.specs.Values.{Val}
use Rattle.commands.specs.Stands.{ExprAt, ExprsAt}
use Rattle.commands.specs.Trees.{Expr, expr_size}

pub one_more : (rows : List Row) (r : Row) (v : Val) → value_of_row r ≡ v → map value_of_row (rows ++ r ∷ []) ≡ map value_of_row rows ++ v ∷ []
one_more rows r v h = map-append value_of_row rows (r ∷ []) ∙ ap (λ x. map value_of_row rows ++ x ∷ []) h

module _ (f : List ℕ) {A : Type 0} (g : Expr → A) where
  -- so many expressions are ahead; what a function gives of them, behind what is at hand, is the whole
  abbrev pub Sending : ℕ → ℕ → List A → List A → Type 0
  Sending n place done whole = (es : List Expr) × (n ≡ length es) × ExprsAt f place es × (done ++ map g es ≡ whole)

  module _ (n i place : ℕ) (done whole : List A) where
    next_by : (es : List Expr) → n - i ≡ length es → ExprsAt f place es → done ++ map g es ≡ whole → i < n → (e : Expr) × (rest : List Expr) × ExprAt f place e × ExprsAt f (place + expr_size e) rest × (n - (i + 1) ≡ length rest) × (done ++ g e ∷ map g rest ≡ whole)
    next_by [] k s p h = absurd (omega arith)
    next_by (e ∷ es) k s p h = (e, es, s.0, s.1, omega arith, p)

    pub sending_first : Sending (n - i) place done whole → i < n → (e : Expr) × ExprAt f place e
    sending_first a h = let p = next_by a.0 a.1 a.2 a.3 h in (p.0, p.2)

    pub sending_next : (more : List A) (v : A) (new : ℕ) → more ≡ done ++ v ∷ [] → ((e : Expr) → ExprAt f place e → v ≡ g e) → ((e : Expr) → ExprAt f place e → new ≡ place + expr_size e) → Sending (n - i) place done whole → i < n → Sending (n - (i + 1)) new more whole
    sending_next more v new m is ends a h =
        let p = next_by a.0 a.1 a.2 a.3 h in
        let there = ends p.0 p.2 in
        let value = is p.0 p.2 in
        let rest = map g p.1 in
        (p.1, p.4, subst (λ l. ExprsAt f l p.1) (sym there) p.3, ap (λ l. l ++ rest) m ∙ append_assoc done (v ∷ []) rest ∙ ap (λ x. done ++ x ∷ rest) value ∙ p.5)

    done_by : (es : List Expr) → n - i ≡ length es → done ++ map g es ≡ whole → i ≡ n → done ≡ whole
    done_by [] k p h = sym (append-nil done) ∙ p
    done_by (e ∷ es) k p h = absurd (omega arith)

    pub sending_done : Sending (n - i) place done whole → i ≡ n → done ≡ whole
    sending_done a h = done_by a.0 a.1 a.3 h
