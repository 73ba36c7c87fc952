-- At most four values in rows.
use Rattle.std.proofs.Common.{◌≡◌, ◌<◌, ◌≤◌, Bool, true, false, ◌&&◌, List, [], ◌∷◌, map, length, get_or, take, None, refl, arith}
use Rattle.values.specs.declared.kind.Kind.{Kind}
use Rattle.values.specs.Kinds.{same_kind}
use Rattle.values.specs.Rows.{row_of}
use Rattle.values.specs.Values.{Val, integer}
use Rattle.heads.specs.Exchanges.{same_kinds}

pub four_rows : (vs : List Val) → length vs ≤ 4 → take (length vs) (row_of (get_or vs 0 (integer None)) ∷ row_of (get_or vs 1 (integer None)) ∷ row_of (get_or vs 2 (integer None)) ∷ row_of (get_or vs 3 (integer None)) ∷ []) ≡ map row_of vs
four_rows [] h = refl
four_rows (a ∷ []) h = refl
four_rows (a ∷ b ∷ []) h = refl
four_rows (a ∷ b ∷ c ∷ []) h = refl
four_rows (a ∷ b ∷ c ∷ d ∷ []) h = refl
four_rows (a ∷ b ∷ c ∷ d ∷ e ∷ vs) h = absurd (omega arith)

-- kinds of different numbers differ
pub longer_differs : (ks js : List Kind) → length ks < length js → same_kinds ks js ≡ false
longer_differs [] [] h = absurd (omega arith)
longer_differs [] (j ∷ js) h = refl
longer_differs (k ∷ ks) [] h = refl
longer_differs (k ∷ ks) (j ∷ js) h = behind (same_kind k j) (longer_differs ks js (omega arith))
  where
    behind : (t : Bool) → same_kinds ks js ≡ false → (t && same_kinds ks js) ≡ false
    behind true e = e
    behind false e = refl
