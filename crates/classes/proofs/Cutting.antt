-- What is read of a class in the front of a file that ends with it, and in the whole file.
use Rattle.std.proofs.Common.{◌≡◌, ℕ, zero, suc, ◌+◌, ◌*◌, ◌<◌, ◌≤◌, List, ◌∷◌, map, take, refl, ap, arith}
use Rattle.std.proofs.lemmas.List.{get_or-take}
use Rattle.values.specs.Rows.{row_of, value_of_row}
use Rattle.heads.specs.Heads.{byte, integer_at, row_at, values_at, value_kinds, declaration_at, declarations_at}
use Rattle.admission.proofs.ClassHeads.{VariablesValid, DeclarationsValid}
use Rattle.admission.proofs.HeadBytes.{row_back}
use Rattle.classes.specs.Classes.{rows_at}

module _ (f : List ℕ) (end : ℕ) where
  pub byte_cut : (at : ℕ) → at < end → byte (take end f) at ≡ byte f at
  byte_cut at h = get_or-take end f at 0 h

  row_cut : (at : ℕ) → at + 6 ≤ end → row_at (take end f) at ≡ row_at f at
  row_cut at h =
      let a = byte_cut at (omega arith) in
      let b = byte_cut (at + 1) (omega arith) in
      let p = byte_cut (at + 2) (omega arith) in
      let q = byte_cut (at + 2 + 1) (omega arith) in
      let r = byte_cut (at + 2 + 2) (omega arith) in
      let s = byte_cut (at + 2 + 3) (omega arith) in
      cc

  pub rows_cut : (n at : ℕ) → at + 6 * n ≤ end → rows_at n (take end f) at ≡ rows_at n f at
  rows_cut zero at h = refl
  rows_cut (suc n) at h =
      let a = row_cut at (omega arith) in
      let b = rows_cut n (at + 6) (omega arith) in
      cc

  kinds_cut : (n at : ℕ) → at + n ≤ end → value_kinds n (take end f) at ≡ value_kinds n f at
  kinds_cut zero at h = refl
  kinds_cut (suc n) at h =
      let a = byte_cut at (omega arith) in
      let b = kinds_cut n (at + 1) (omega arith) in
      cc

  declaration_cut : (at : ℕ) → at + 8 ≤ end → byte f (at + 3) ≤ 4 → declaration_at (take end f) at ≡ declaration_at f at
  declaration_cut at h few =
      let a = byte_cut at (omega arith) in
      let b = byte_cut (at + 1) (omega arith) in
      let p = byte_cut (at + 2) (omega arith) in
      let q = byte_cut (at + 3) (omega arith) in
      let ks = kinds_cut (byte f (at + 3)) (at + 4) (omega arith) in
      cc

  pub declarations_cut : (n at : ℕ) → at + 8 * n ≤ end → DeclarationsValid n (take end f) at → declarations_at n (take end f) at ≡ declarations_at n f at
  declarations_cut zero at h v = refl
  declarations_cut (suc n) at h v =
      let q = byte_cut (at + 3) (omega arith) in
      let few : byte f (at + 3) ≤ 4 = omega (arith, v.0.count, q) in
      let a = declaration_cut at (omega arith) few in
      let b = declarations_cut n (at + 8) (omega arith) v.1 in
      cc

-- the rows of variables are those of their values
pub values_rows : (n : ℕ) (f : List ℕ) (at : ℕ) → map value_of_row (rows_at n f at) ≡ values_at n f at
values_rows zero f at = refl
values_rows (suc n) f at = ap (λ l. value_of_row (row_at f at) ∷ l) (values_rows n f (at + 6))

pub rows_of_values : (n : ℕ) (f : List ℕ) (at : ℕ) → VariablesValid n f at → map row_of (values_at n f at) ≡ rows_at n f at
rows_of_values zero f at v = refl
rows_of_values (suc n) f at v =
    let a = row_back (byte f at) (byte f (at + 1)) (integer_at f (at + 2)) v.0.row in
    let b = rows_of_values n f (at + 6) v.1 in
    cc
