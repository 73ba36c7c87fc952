-- The kinds of variables, one by one.
use Rattle.std.proofs.Common.{◌≡◌, ℕ, zero, suc, ◌+◌, ◌*◌, ◌<◌, ◌≤◌, List, Some, None, Option, is_some, IfSome, ltb, ltb-true, ltb-false, sym, refl, ap, ◌∙◌, arith}
use Rattle.values.specs.declared.kind.Kind.{Kind}
use Rattle.std.specs.List.{slice_get}
use Rattle.heads.specs.Heads.{kind_at, kinds_at}

pub nth_kind : (n : ℕ) (f : List ℕ) (at v : ℕ) → v < n → Some (kind_at f (at + 6 * v)) ≡ slice_get (kinds_at n f at) v
nth_kind zero f at v h = absurd (omega arith)
nth_kind (suc n) f at zero h = let e : at + 6 * 0 ≡ at = omega arith in ap (λ p. Some (kind_at f p)) e
nth_kind (suc n) f at (suc v) h = let e : at + 6 * suc v ≡ at + 6 + 6 * v = omega arith in ap (λ p. Some (kind_at f p)) e ∙ nth_kind n f (at + 6) v (omega arith)

pub no_kind : (n : ℕ) (f : List ℕ) (at v : ℕ) → n ≤ v → None ≡ slice_get (kinds_at n f at) v
no_kind zero f at v h = refl
no_kind (suc n) f at zero h = absurd (omega arith)
no_kind (suc n) f at (suc v) h = no_kind n f (at + 6) v (omega arith)

-- the kind where the variable is below the count, and none elsewhere
pub kind_where : (n : ℕ) (f : List ℕ) (at v : ℕ) (o : Option Kind) → is_some o ≡ ltb v n → IfSome o (λ k. k ≡ kind_at f (at + 6 * v)) → o ≡ slice_get (kinds_at n f at) v
kind_where n f at v None h k = no_kind n f at v (ltb-false v n (sym h))
kind_where n f at v (Some x) h k = ap (λ y. Some y) k ∙ nth_kind n f at v (ltb-true v n (sym h))
