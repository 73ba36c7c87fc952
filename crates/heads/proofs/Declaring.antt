-- Kinds and declarations, by their numbers.
use Rattle.std.proofs.Common.{◌≡◌, ℕ, zero, suc, ◌+◌, ◌*◌, Bool, true, false, ◌&&◌, ◌||◌, List, [], ◌∷◌, length, drop, refl, ap, ◌∙◌, get_or-drop, arith}
use Rattle.std.specs.List.{list_all, list_any, enumerate_from, range_with_len}
use Rattle.values.specs.declared.kind.Kind.{Kind}
use Rattle.values.specs.Kinds.{same_kind}
use Rattle.commands.specs.Trees.{Declaration}
use Rattle.heads.specs.Heads.{byte, kind_at, value_kinds, declaration_at, declarations_at}
use Rattle.heads.specs.Exchanges.{same_kinds, same_declaration, declared}

pub other_length : (ks : List Kind) (n : ℕ) (f : List ℕ) (at : ℕ) → (length ks ≡ n → ⊥) → false ≡ same_kinds ks (value_kinds n f at)
other_length [] zero f at h = absurd (h refl)
other_length [] (suc n) f at h = refl
other_length (k ∷ ks) zero f at h = refl
other_length (k ∷ ks) (suc n) f at h = both (same_kind k (kind_at f at)) (other_length ks n f (at + 1) (λ e. h (ap suc e)))
  where
    both : (b : Bool) {c : Bool} → false ≡ c → false ≡ (b && c)
    both true e = e
    both false e = refl

-- each kind beside the byte of its number
pub kinds_along : (ks : List Kind) (n : ℕ) (f : List ℕ) (at i : ℕ) → length ks ≡ n → list_all (λ (p : ℕ × Kind). same_kind p.1 (kind_at f (at + p.0))) (enumerate_from i ks) ≡ same_kinds ks (value_kinds n f (at + i))
kinds_along [] zero f at i e = refl
kinds_along [] (suc n) f at i e = absurd (omega (arith, e))
kinds_along (k ∷ ks) zero f at i e = absurd (omega (arith, e))
kinds_along (k ∷ ks) (suc n) f at i e =
    let next : at + i + 1 ≡ at + (i + 1) = omega arith in
    rw (next, kinds_along ks n f at (i + 1) (omega (arith, e)))

-- the kinds that stand behind a place
pub kinds_on : (n : ℕ) (f : List ℕ) (at i : ℕ) → value_kinds n (drop at f) i ≡ value_kinds n f (at + i)
kinds_on zero f at i = refl
kinds_on (suc n) f at i =
    let next : at + (i + 1) ≡ at + i + 1 = omega arith in
    rw (kinds_on n f at (i + 1), ← next, get_or-drop at f i 0)

-- the declaration at a place
pub declaration_on : (f : List ℕ) (at : ℕ) → declaration_at (drop at f) 0 ≡ declaration_at f at
declaration_on f at =
    let start : at + 0 ≡ at = omega arith in
    rw (kinds_on (byte (drop at f) 3) f at 4, get_or-drop at f 0 0, get_or-drop at f 1 0, get_or-drop at f 2 0, get_or-drop at f 3 0, start)

-- each declaration by its number
pub declared_along : (d : Declaration) (n : ℕ) (f : List ℕ) (at i : ℕ) → list_any (λ (j : ℕ). same_declaration d (declaration_at (drop (at + 8 * j) f) 0)) (range_with_len i n) ≡ declared d (declarations_at n f (at + 8 * i))
declared_along d zero f at i = refl
declared_along d (suc n) f at i =
    let next : at + 8 * i + 8 ≡ at + 8 * (i + 1) = omega arith in
    let here : same_declaration d (declaration_at (drop (at + 8 * i) f) 0) ≡ same_declaration d (declaration_at f (at + 8 * i)) = ap (same_declaration d) (declaration_on f (at + 8 * i)) in
    ap (λ b. b || list_any (λ (j : ℕ). same_declaration d (declaration_at (drop (at + 8 * j) f) 0)) (range_with_len (i + 1) n)) here ∙ rw (next, declared_along d n f at (i + 1))
