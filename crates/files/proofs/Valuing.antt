-- The values of a SEND, one by one.
use Rattle.std.proofs.Common.{◌≡◌, ℕ, suc, ◌+◌, ◌-◌, ◌<◌, List, [], ◌∷◌, ◌++◌, Ok, Err, sym, refl, ap, append_assoc, arith}
use Rattle.values.specs.declared.kind.Kind.{Kind}
use Rattle.answers.specs.declared.fault.LoadFault.{LoadFault}
use Rattle.heads.specs.Checked.{Checked, ◌>>=◌}
use Rattle.files.specs.Expressions.{End}
use Rattle.files.specs.Statements.{check_values}

-- the kinds of the values so far stand before those of the rest
abbrev pub prefixed : List Kind → Checked (ℕ × List Kind) → Checked (ℕ × List Kind)
prefixed ks (Ok v) = Ok (v.0, ks ++ v.1)
prefixed ks (Err x) = Err x

pub values_none : (r : Checked (ℕ × List Kind)) → prefixed [] r ≡ r
values_none (Ok v) = refl
values_none (Err x) = refl

one_more : (ks : List Kind) (k : Kind) (r : Checked (ℕ × List Kind)) → prefixed ks (r >>= (λ rest. Ok (rest.0, k ∷ rest.1))) ≡ prefixed (ks ++ k ∷ []) r
one_more ks k (Ok v) = ap (λ l. Ok (v.0, l)) (sym (append_assoc ks (k ∷ []) v.1))
one_more ks k (Err x) = refl

pub values_more : (value : ℕ → Checked End) (n i end : ℕ) (ks : List Kind) → i < n → (e : End) → Ok e ≡ value end → prefixed ks (check_values (n - i) value end) ≡ prefixed (ks ++ e.1 ∷ []) (check_values (n - (i + 1)) value e.0)
values_more value n i end ks more e h =
    let one : n - i ≡ suc (n - (i + 1)) = omega arith in
    rw (one, ← h) (one_more ks e.1 (check_values (n - (i + 1)) value e.0))

pub values_stop : (value : ℕ → Checked End) (n i end : ℕ) {x : LoadFault} → i < n → Err x ≡ value end → check_values (n - i) value end ≡ Err x
values_stop value n i end more h = let one : n - i ≡ suc (n - (i + 1)) = omega arith in rw (one, ← h)

pub values_all : (value : ℕ → Checked End) (n i end : ℕ) → i ≡ n → check_values (n - i) value end ≡ Ok (end, [])
values_all value n i end e = let none : n - i ≡ 0 = omega arith in rw none
