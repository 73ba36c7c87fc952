-- The check of a class's head accepts exactly the heads whose fields are valid.
use Rattle.std.proofs.Common.{◌≡◌, ℕ, zero, suc, ◌+◌, ◌*◌, ◌<◌, ◌≤◌, Bool, true, false, cond, not, eqb, ltb, leb, List, [], ◌∷◌, map, length, ℤ, Some, Ok, refl, ap, subst, arith, ltb-true, lt-ltb, le-leb, leb-true}
use Rattle.std.specs.List.{AllByRecursion}
use Rattle.values.specs.declared.kind.Kind.TheVariants.{Integer, Boolean}
use Rattle.values.specs.declared.row.Row.{Row}
use Rattle.values.specs.Laws.{Ranged}
use Rattle.values.specs.Rows.{valid, value_of_row, row_kind}
use Rattle.values.specs.Values.{Val, integer, boolean, kind_of, unknown_of, in_range, is_zero}
use Rattle.answers.specs.declared.fault.FaultKind.TheVariants.{ClassHead}
use Rattle.answers.specs.declared.fault.Layer.TheVariants.{ClassHead as ClassHeadL}
use Rattle.heads.specs.Checked.{Checked, ask, ◌>>◌}
use Rattle.heads.specs.Heads.{byte, integer_at, row_at, values_at, kinds_at, value_kinds, declarations_at, field, is_kind, check_variable, check_variables, kind_fits, check_kind, check_exchange, check_declaration, check_declarations, check_head, declarations_place}
use Rattle.commands.specs.ByteLists.{Bytes}
use Rattle.admission.specs.Conditions.{DeclarationKept}
use Rattle.admission.proofs.Oks.{bind_ok, seq_ok, ask_ok, ask_last, ok_is}
use Rattle.admission.proofs.Ranges.{integer_ranged, long_below}

pub record VariableValid (f : List ℕ) (at : ℕ) : Type 0 where
  pub within : at + 6 ≤ length f
  pub kind : is_kind (byte f at) ≡ true
  pub known : byte f (at + 1) < 2
  pub row : valid (row_at f at) ≡ true

abbrev pub VariablesValid : ℕ → List ℕ → ℕ → Type 0
VariablesValid zero f at = Unit {0}
VariablesValid (suc n) f at = VariableValid f at × VariablesValid n f (at + 6)

pub record DeclarationValid (f : List ℕ) (at : ℕ) : Type 0 where
  pub within : at + 8 ≤ length f
  pub direction : byte f at < 2
  pub channel : byte f (at + 1) < 32
  pub message : byte f (at + 2) < 255
  pub count : byte f (at + 3) < 5
  pub kind : (i : ℕ) → i < 4 → kind_fits i (byte f (at + 3)) (byte f (at + 4 + i)) ≡ true

abbrev pub DeclarationsValid : ℕ → List ℕ → ℕ → Type 0
DeclarationsValid zero f at = Unit {0}
DeclarationsValid (suc n) f at = DeclarationValid f at × DeclarationsValid n f (at + 8)

abbrev pub head_end : List ℕ → ℕ → ℕ
head_end f at = at + 2 + 6 * byte f at + 8 * byte f (declarations_place f at)

pub record HeadValid (f : List ℕ) (at : ℕ) : Type 0 where
  pub within : head_end f at ≤ length f
  pub variables_few : byte f at ≤ 8
  pub variables : VariablesValid (byte f at) f (at + 1)
  pub declarations_few : byte f (declarations_place f at) ≤ 16
  pub declarations : DeclarationsValid (byte f (declarations_place f at)) f (declarations_place f at + 1)

-- fields
field_ok : {B : Type 0} (f : List ℕ) (at size : ℕ) (good : Bool) (y : Checked B) (v : B) → (field f at size good >> y) ≡ Ok v → (at + size ≤ length f) × (good ≡ true) × (y ≡ Ok v)
field_ok f at size good y v h =
    let p = seq_ok (field f at size good) y v h in
    let q = ask_ok (leb (at + size) (length f)) ClassHead at ClassHeadL (ask good ClassHead at ClassHeadL) p.0 p.1 in
    (leb-true (at + size) (length f) q.0, ask_last good ClassHead at ClassHeadL p.0 q.1, p.2)

field_last : (f : List ℕ) (at size : ℕ) (good : Bool) (v : Unit {0}) → field f at size good ≡ Ok v → (at + size ≤ length f) × (good ≡ true)
field_last f at size good v h =
    let q = ask_ok (leb (at + size) (length f)) ClassHead at ClassHeadL (ask good ClassHead at ClassHeadL) v h in
    (leb-true (at + size) (length f) q.0, ask_last good ClassHead at ClassHeadL v q.1)

field_passes : (f : List ℕ) (at size : ℕ) (good : Bool) → at + size ≤ length f → good ≡ true → field f at size good ≡ Ok tt
field_passes f at size good w g = rw (le-leb (at + size) (length f) w, g)

-- variables
variable_sound : (f : List ℕ) (at : ℕ) (v : Unit {0}) → check_variable f at ≡ Ok v → VariableValid f at
variable_sound f at v h =
    let p = field_ok f at 1 (is_kind (byte f at)) _ v h in
    let q = field_ok f (at + 1) 1 (ltb (byte f (at + 1)) 2) _ v p.2 in
    let r = field_last f (at + 2) 4 (valid (row_at f at)) v q.2 in
    record { within = omega (arith, r.0); kind = p.1; known = ltb-true (byte f (at + 1)) 2 q.1; row = r.1 }

variable_complete : (f : List ℕ) (at : ℕ) → VariableValid f at → check_variable f at ≡ Ok tt
variable_complete f at h =
    let a = field_passes f at 1 (is_kind (byte f at)) (omega (arith, h.within)) h.kind in
    let b = field_passes f (at + 1) 1 (ltb (byte f (at + 1)) 2) (omega (arith, h.within)) (lt-ltb (byte f (at + 1)) 2 h.known) in
    let c = field_passes f (at + 2) 4 (valid (row_at f at)) (omega (arith, h.within)) h.row in
    rw (a, b, c)

variables_sound : (n : ℕ) (f : List ℕ) (at p : ℕ) → check_variables n f at ≡ Ok p → VariablesValid n f at × (p ≡ at + 6 * n)
variables_sound zero f at p h = let q : at ≡ p = ok_is at p h in (tt, omega (arith, q))
variables_sound (suc n) f at p h =
    let a = seq_ok (check_variable f at) (check_variables n f (at + 6)) p h in
    let b = variables_sound n f (at + 6) p a.2 in
    ((variable_sound f at a.0 a.1, b.0), omega (arith, b.1))

variables_complete : (n : ℕ) (f : List ℕ) (at : ℕ) → VariablesValid n f at → check_variables n f at ≡ Ok (at + 6 * n)
variables_complete zero f at h = let e : at ≡ at + 0 = omega arith in ap (λ m. Ok m) e
variables_complete (suc n) f at h =
    let e : at + 6 + 6 * n ≡ at + 6 * suc n = omega arith in
    rw (variable_complete f at h.0, variables_complete n f (at + 6) h.1, e)

-- declarations
by_places : (P : ℕ → Type 0) → P 0 → P 1 → P 2 → P 3 → (i : ℕ) → i < 4 → P i
by_places P a b c d zero h = a
by_places P a b c d (suc zero) h = b
by_places P a b c d (suc (suc zero)) h = c
by_places P a b c d (suc (suc (suc zero))) h = d
by_places P a b c d (suc (suc (suc (suc i)))) h = absurd (omega arith)

declaration_sound : (f : List ℕ) (at : ℕ) (v : Unit {0}) → check_declaration f at ≡ Ok v → DeclarationValid f at
declaration_sound f at v h =
    let e = seq_ok (check_exchange f at) _ v h in
    let a = field_ok f at 1 (ltb (byte f at) 2) _ e.0 e.1 in
    let b = field_ok f (at + 1) 1 (ltb (byte f (at + 1)) 32) _ e.0 a.2 in
    let c = field_ok f (at + 2) 1 (ltb (byte f (at + 2)) 255) _ e.0 b.2 in
    let n = field_last f (at + 3) 1 (ltb (byte f (at + 3)) 5) e.0 c.2 in
    let w = field_ok f (at + 4 + 0) 1 (kind_fits 0 (byte f (at + 3)) (byte f (at + 4 + 0))) _ v e.2 in
    let x = field_ok f (at + 4 + 1) 1 (kind_fits 1 (byte f (at + 3)) (byte f (at + 4 + 1))) _ v w.2 in
    let y = field_ok f (at + 4 + 2) 1 (kind_fits 2 (byte f (at + 3)) (byte f (at + 4 + 2))) _ v x.2 in
    let z = field_last f (at + 4 + 3) 1 (kind_fits 3 (byte f (at + 3)) (byte f (at + 4 + 3))) v y.2 in
    record {
      within = omega (arith, z.0);
      direction = ltb-true (byte f at) 2 a.1;
      channel = ltb-true (byte f (at + 1)) 32 b.1;
      message = ltb-true (byte f (at + 2)) 255 c.1;
      count = ltb-true (byte f (at + 3)) 5 n.1;
      kind = by_places (λ i. kind_fits i (byte f (at + 3)) (byte f (at + 4 + i)) ≡ true) w.1 x.1 y.1 z.1;
    }

module _ (f : List ℕ) (at : ℕ) (h : DeclarationValid f at) where
  kind_passes : (i : ℕ) → i < 4 → check_kind f at i ≡ Ok tt
  kind_passes i l = field_passes f (at + 4 + i) 1 (kind_fits i (byte f (at + 3)) (byte f (at + 4 + i))) (omega (arith, h.within)) (h.kind i l)

  declaration_complete : check_declaration f at ≡ Ok tt
  declaration_complete =
      let a = field_passes f at 1 (ltb (byte f at) 2) (omega (arith, h.within)) (lt-ltb (byte f at) 2 h.direction) in
      let b = field_passes f (at + 1) 1 (ltb (byte f (at + 1)) 32) (omega (arith, h.within)) (lt-ltb (byte f (at + 1)) 32 h.channel) in
      let c = field_passes f (at + 2) 1 (ltb (byte f (at + 2)) 255) (omega (arith, h.within)) (lt-ltb (byte f (at + 2)) 255 h.message) in
      let n = field_passes f (at + 3) 1 (ltb (byte f (at + 3)) 5) (omega (arith, h.within)) (lt-ltb (byte f (at + 3)) 5 h.count) in
      rw (a, b, c, n, kind_passes 0 (omega arith), kind_passes 1 (omega arith), kind_passes 2 (omega arith), kind_passes 3 (omega arith))

declarations_sound : (n : ℕ) (f : List ℕ) (at p : ℕ) → check_declarations n f at ≡ Ok p → DeclarationsValid n f at × (p ≡ at + 8 * n)
declarations_sound zero f at p h = let q : at ≡ p = ok_is at p h in (tt, omega (arith, q))
declarations_sound (suc n) f at p h =
    let a = seq_ok (check_declaration f at) (check_declarations n f (at + 8)) p h in
    let b = declarations_sound n f (at + 8) p a.2 in
    ((declaration_sound f at a.0 a.1, b.0), omega (arith, b.1))

declarations_complete : (n : ℕ) (f : List ℕ) (at : ℕ) → DeclarationsValid n f at → check_declarations n f at ≡ Ok (at + 8 * n)
declarations_complete zero f at h = let e : at ≡ at + 0 = omega arith in ap (λ m. Ok m) e
declarations_complete (suc n) f at h =
    let e : at + 8 + 8 * n ≡ at + 8 * suc n = omega arith in
    rw (declaration_complete f at h.0, declarations_complete n f (at + 8) h.1, e)

declarations_within : (n : ℕ) (f : List ℕ) (at : ℕ) → at ≤ length f → DeclarationsValid n f at → at + 8 * n ≤ length f
declarations_within zero f at l h = omega arith
declarations_within (suc n) f at l h = let w = h.0.within in let r = declarations_within n f (at + 8) w h.1 in omega arith

-- a whole head
abbrev after_variables : List ℕ → ℕ → Checked ℕ
after_variables f next = field f next 1 (ltb (byte f next) 17) >> check_declarations (byte f next) f (next + 1)

pub head_sound : (f : List ℕ) (at p : ℕ) → check_head f at ≡ Ok p → HeadValid f at × (p ≡ head_end f at)
head_sound f at p h =
    let a = field_ok f at 1 (ltb (byte f at) 9) _ p h in
    let b = bind_ok (check_variables (byte f at) f (at + 1)) (after_variables f) p a.2 in
    let v = variables_sound (byte f at) f (at + 1) b.0 b.1 in
    let rest : after_variables f (declarations_place f at) ≡ Ok p = subst (λ n. after_variables f n ≡ Ok p) v.1 b.2 in
    let c = field_ok f (declarations_place f at) 1 (ltb (byte f (declarations_place f at)) 17) _ p rest in
    let d = declarations_sound (byte f (declarations_place f at)) f (declarations_place f at + 1) p c.2 in
    let end = declarations_within (byte f (declarations_place f at)) f (declarations_place f at + 1) c.0 d.0 in (
      record {
        within = omega (arith, end);
        variables_few = omega (arith, ltb-true (byte f at) 9 a.1);
        variables = v.0;
        declarations_few = omega (arith, ltb-true (byte f (declarations_place f at)) 17 c.1);
        declarations = d.0;
      },
      omega (arith, d.1),
    )

pub head_complete : (f : List ℕ) (at : ℕ) → HeadValid f at → check_head f at ≡ Ok (head_end f at)
head_complete f at h =
    let m = byte f (declarations_place f at) in
    let few : byte f at < 9 = omega (arith, h.variables_few) in
    let less : m < 17 = omega (arith, h.declarations_few) in
    let a = field_passes f at 1 (ltb (byte f at) 9) (omega (arith, h.within)) (lt-ltb (byte f at) 9 few) in
    let b = variables_complete (byte f at) f (at + 1) h.variables in
    let c = field_passes f (declarations_place f at) 1 (ltb m 17) (omega (arith, h.within)) (lt-ltb m 17 less) in
    let d = declarations_complete m f (declarations_place f at + 1) h.declarations in
    let e : declarations_place f at + 1 + 8 * m ≡ head_end f at = omega arith in
    rw (a, b, c, d, e)

-- what a head gives to its class
pub values_count : (n : ℕ) (f : List ℕ) (at : ℕ) → length (values_at n f at) ≡ n
values_count zero f at = refl
values_count (suc n) f at = ap suc (values_count n f (at + 6))

pub declarations_count : (n : ℕ) (f : List ℕ) (at : ℕ) → length (declarations_at n f at) ≡ n
declarations_count zero f at = refl
declarations_count (suc n) f at = ap suc (declarations_count n f (at + 8))

pub value_kinds_count : (n : ℕ) (f : List ℕ) (at : ℕ) → length (value_kinds n f at) ≡ n
value_kinds_count zero f at = refl
value_kinds_count (suc n) f at = ap suc (value_kinds_count n f (at + 1))

-- a row's value, by its tests
abbrev chosen : Bool → Bool → Bool → Bool → ℤ → Val
chosen good unknown truth b z = cond good (cond unknown (unknown_of (cond truth Boolean Integer)) (cond truth (boolean (Some b)) (integer (Some z)))) (unknown_of (cond truth Boolean Integer))

chosen_kind : (good unknown truth b : Bool) (z : ℤ) → kind_of (chosen good unknown truth b z) ≡ cond truth Boolean Integer
chosen_kind true true true b z = refl
chosen_kind true true false b z = refl
chosen_kind true false true b z = refl
chosen_kind true false false b z = refl
chosen_kind false unknown true b z = refl
chosen_kind false unknown false b z = refl

chosen_ranged : (good unknown truth b : Bool) (z : ℤ) → in_range z ≡ true → Ranged (chosen good unknown truth b z)
chosen_ranged true true true b z h = tt
chosen_ranged true true false b z h = tt
chosen_ranged true false true b z h = tt
chosen_ranged true false false b z h = h
chosen_ranged false unknown true b z h = tt
chosen_ranged false unknown false b z h = tt

row_kind_kept : (r : Row) → kind_of (value_of_row r) ≡ row_kind r
row_kind_kept r = chosen_kind (valid r) (eqb r.known 0) (eqb r.kind 2) (not (is_zero r.number)) r.number

pub values_kinds : (n : ℕ) (f : List ℕ) (at : ℕ) → map kind_of (values_at n f at) ≡ kinds_at n f at
values_kinds zero f at = refl
values_kinds (suc n) f at = let a = row_kind_kept (row_at f at) in let b = values_kinds n f (at + 6) in cc

pub byte_below : (f : List ℕ) (at : ℕ) → Bytes f → byte f at < 256
byte_below [] zero h = omega arith
byte_below [] (suc at) h = omega arith
byte_below (b ∷ f) zero h = h.0
byte_below (b ∷ f) (suc at) h = byte_below f at h.1

pub integer_kept : (f : List ℕ) (at : ℕ) → Bytes f → in_range (integer_at f at) ≡ true
integer_kept f at h = integer_ranged _ (long_below (byte f at) (byte f (at + 1)) (byte f (at + 2)) (byte f (at + 3)) (byte_below f at h) (byte_below f (at + 1) h) (byte_below f (at + 2) h) (byte_below f (at + 3) h))

row_ranged : (r : Row) → in_range r.number ≡ true → Ranged (value_of_row r)
row_ranged r h = chosen_ranged (valid r) (eqb r.known 0) (eqb r.kind 2) (not (is_zero r.number)) r.number h

pub values_ranged : (n : ℕ) (f : List ℕ) (at : ℕ) → Bytes f → AllByRecursion Ranged (values_at n f at)
values_ranged zero f at h = tt
values_ranged (suc n) f at h = (row_ranged (row_at f at) (integer_kept f (at + 2) h), values_ranged n f (at + 6) h)

pub declarations_kept : (n : ℕ) (f : List ℕ) (at : ℕ) → DeclarationsValid n f at → AllByRecursion DeclarationKept (declarations_at n f at)
declarations_kept zero f at h = tt
declarations_kept (suc n) f at h =
    let v = h.0 in
    let few = value_kinds_count (byte f (at + 3)) f (at + 4) in
    (record { exchange_kept = record { channel_kept = v.channel; message_kept = v.message; count_kept = omega (arith, v.count, few) } }, declarations_kept n f (at + 8) h.1)
