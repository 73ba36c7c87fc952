-- The laws of values.
use Rattle.std.proofs.Common.{◌≡◌, ℕ, zero, suc, ◌+◌, ◌*◌, ◌/◌, ◌<◌, ◌≤◌, Bool, true, false, cond, not, ◌&&◌, ◌||◌, eqb, ltb, ◌⊎◌, List, get_or, ℤ, pos, negsuc, neg_ℤ, nat_abs, Some, None, Ok, Err, codes, Decides, Option, sym, refl, ap, ◌∙◌, subst, inl, inr, add-mul, one-mul, div-mul-le_self, arith, w32, SFits}
use native.Mathlib.Nat.{lt-div-mul-add}
use lib.Signed.{lt_z, quot_z}
use Rattle.std.proofs.lemmas.Fmt.{digits_decimal, parse-signed_decimal}
use Rattle.std.proofs.lemmas.Bool.Decides.{nat_tests}
use Rattle.std.specs.Result.{OkIff}
use Rattle.std.specs.Str.Parse.{signed_digits_value, ParsesSigned}
use Rattle.std.specs.Fmt.{signed_decimal}
use Rattle.std.specs.Str.{all_ascii_digits}
use Rattle.values.specs.declared.value.TextFault.TheVariants.{NotAValue, OutOfRange}
use Rattle.values.specs.declared.op.Op.{Op}
use Rattle.values.specs.declared.op.Op.TheVariants.{Add, Sub, Mul, Div, Less, Same, And, Or}
use Rattle.values.specs.Ops.{op_name, op_of_name}
use Rattle.values.specs.Laws.{MayBe, Always, TowardZero, Ranged, Laws}
use Rattle.values.specs.Texts.{read_value, read_signed, is_numeral, as_integer, text_of}
use Rattle.values.specs.Values.{Val, integer, boolean, in_range, ranged, is_zero, div, and, or, negate}
use Rattle.values.proofs.Texts.{own, numeral_tells, range_tells, read_other}

apart : {A : Type 0} → true ≡ false → A
apart e = absurd (let z : ◌≡◌ {A = ℕ} 0 1 = cc in omega arith)

none_some : {A : Type 0} (r : Bool) → None ≡ Some r → A
none_some r e = absurd (let z : ◌≡◌ {A = ℕ} 0 1 = cc in omega arith)

inside : (a b : Bool) → Some a ≡ Some b → a ≡ b
inside a b e = cc

and_false : (a : Bool) → (a && false) ≡ false
and_false true = refl
and_false false = refl

or_true : (a : Bool) → (a || true) ≡ true
or_true true = refl
or_true false = refl

and_sound : (x y : Option Bool) (r : Bool) → and x y ≡ Some r → Always ◌&&◌ x y r
and_sound (Some false) y r e a b p q = ap (λ (t : Bool). t && b) (sym p) ∙ inside _ _ e
and_sound (Some true) (Some t) r e a b p q = ap (λ (u : Bool). u && b) (sym p) ∙ sym q ∙ inside _ _ e
and_sound (Some true) None r e a b p q = none_some r e
and_sound None (Some false) r e a b p q = ap (λ (t : Bool). a && t) (sym q) ∙ and_false a ∙ inside _ _ e
and_sound None (Some true) r e a b p q = none_some r e
and_sound None None r e a b p q = none_some r e

and_complete : (x y : Option Bool) (r : Bool) → Always ◌&&◌ x y r → and x y ≡ Some r
and_complete (Some false) (Some t) r e = ap Some (e false t refl refl)
and_complete (Some false) None r e = ap Some (e false true refl tt)
and_complete (Some true) (Some t) r e = ap Some (e true t refl refl)
and_complete (Some true) None r e = apart (e true true refl tt ∙ sym (e true false refl tt))
and_complete None (Some false) r e = ap Some (e true false tt refl)
and_complete None (Some true) r e = apart (e true true tt refl ∙ sym (e false true tt refl))
and_complete None None r e = apart (e true true tt tt ∙ sym (e true false tt tt))

or_sound : (x y : Option Bool) (r : Bool) → or x y ≡ Some r → Always ◌||◌ x y r
or_sound (Some true) y r e a b p q = ap (λ (t : Bool). t || b) (sym p) ∙ inside _ _ e
or_sound (Some false) (Some t) r e a b p q = ap (λ (u : Bool). u || b) (sym p) ∙ sym q ∙ inside _ _ e
or_sound (Some false) None r e a b p q = none_some r e
or_sound None (Some true) r e a b p q = ap (λ (t : Bool). a || t) (sym q) ∙ or_true a ∙ inside _ _ e
or_sound None (Some false) r e a b p q = none_some r e
or_sound None None r e a b p q = none_some r e

or_complete : (x y : Option Bool) (r : Bool) → Always ◌||◌ x y r → or x y ≡ Some r
or_complete (Some true) (Some t) r e = ap Some (e true t refl refl)
or_complete (Some true) None r e = ap Some (e true true refl tt)
or_complete (Some false) (Some t) r e = ap Some (e false t refl refl)
or_complete (Some false) None r e = apart (e false true refl tt ∙ sym (e false false refl tt))
or_complete None (Some true) r e = ap Some (e true true tt refl)
or_complete None (Some false) r e = apart (e true false tt refl ∙ sym (e false false tt refl))
or_complete None None r e = apart (e true true tt tt ∙ sym (e false false tt tt))

negate_sound : (x : Option Bool) (r : Bool) → negate x ≡ Some r → (a : Bool) → MayBe x a → not a ≡ r
negate_sound None r e a p = none_some r e
negate_sound (Some t) r e a p = ap not (sym p) ∙ inside _ _ e

-- the quotient of magnitudes
low_mag : (n d : ℕ) → n / d * d ≤ n
low_mag n d = div-mul-le_self n d

high_mag : (n d : ℕ) → 0 < d → n < (n / d + 1) * d
high_mag n d h = omega (arith, lt-div-mul-add {a = n} {b = d} h, add-mul (n / d) 1 d, one-mul d)

abs_neg : (n : ℕ) → nat_abs (neg_ℤ (pos n)) ≡ n
abs_neg zero = refl
abs_neg (suc n) = refl

not_below_zero : (n : ℕ) → ltb n 0 ≡ false
not_below_zero n = grind (arith, nat_tests)

positive : (n : ℕ) → eqb n 0 ≡ false → 0 < n
positive n e = grind (arith, nat_tests)

-- a quotient of parts with two signs
negative : (m : ℕ) → (neg_ℤ (pos m) ≡ pos 0) ⊎ (lt_z (neg_ℤ (pos m)) (pos 0) ≡ true)
negative zero = inl refl
negative (suc m) = inr refl

quotient : (a b : ℤ) → is_zero b ≡ false → TowardZero a b (quot_z a b)
quotient (pos n) (pos d) z =
    record {
      low = low_mag n d;
      high = high_mag n d (positive d z);
      sign = inr (simp not_below_zero);
    }
quotient (pos n) (negsuc d) z =
    record {
      low = rw abs_neg (low_mag n (suc d));
      high = rw abs_neg (high_mag n (suc d) (omega arith));
      sign = simp not_below_zero (negative (n / suc d));
    }
quotient (negsuc n) (pos d) z =
    record {
      low = rw abs_neg (low_mag (suc n) d);
      high = rw abs_neg (high_mag (suc n) d (positive d z));
      sign = simp not_below_zero (negative (suc n / d));
    }
quotient (negsuc n) (negsuc d) z =
    record {
      low = low_mag (suc n) (suc d);
      high = high_mag (suc n) (suc d) (omega arith);
      sign = inr (simp not_below_zero);
    }

kept : (t : Bool) (x : Option ℤ) (q : ℤ) → cond t None x ≡ Some q → (t ≡ false) × (x ≡ Some q)
kept true x q e = absurd (let z : ◌≡◌ {A = ℕ} 0 1 = cc in omega arith)
kept false x q e = (refl, e)

inside_range : (t : Bool) (z q : ℤ) → cond t (Some z) None ≡ Some q → z ≡ q
inside_range true z q e = cc
inside_range false z q e = absurd (let y : ◌≡◌ {A = ℕ} 0 1 = cc in omega arith)

div_law : (a b q : ℤ) → div (Some a) (Some b) ≡ Some q → TowardZero a b q
div_law a b q e =
    let h = kept (is_zero b) (ranged (quot_z a b)) q e in
    subst (TowardZero a b) (inside_range (in_range (quot_z a b)) (quot_z a b) q h.1) (quotient a b h.0)

converted : (n f : Bool) (P Q : Type 0) (v : ℤ) → Decides n P → Decides f Q → OkIff (cond n (cond f (Ok v) (Err OutOfRange)) (Err NotAValue)) (P × Q) v
converted true true P Q v p q = ((p.0 refl, q.0 refl), refl)
converted true false P Q v p q = λ both. apart (sym (q.1 both.1))
converted false f P Q v p q = λ both. apart (sym (p.1 both.0))

reads : (bs : List ℕ) → ParsesSigned w32 10 bs (read_signed bs)
reads bs = converted (is_numeral bs) (in_range (signed_digits_value 10 bs)) _ _ _ (numeral_tells bs) (range_tells (signed_digits_value 10 bs))

-- what is written of a number is none of the four words
not_word : (w : List ℕ) → all_ascii_digits w ≡ false → (get_or w 0 0 ≡ 45 → ⊥) → (z : ℤ) → SFits w32 z → signed_decimal z ≡ w → ⊥
not_word w d m (pos n) f e = apart (sym (digits_decimal own n (omega (arith, f.sfits))) ∙ ap all_ascii_digits e ∙ d)
not_word w d m (negsuc n) f e = m (sym (ap (λ bs. get_or bs 0 0) e))

read_back : (v : Val) → Ranged v → read_value (text_of v) ≡ Ok v
read_back (integer None) r = refl
read_back (integer (Some z)) r =
    let f = (range_tells z).0 r in
    read_other (signed_decimal z)
    (not_word (codes "?i") refl (λ e. omega arith) z f)
    (not_word (codes "?b") refl (λ e. omega arith) z f)
    (not_word (codes "true") refl (λ e. omega arith) z f)
    (not_word (codes "false") refl (λ e. omega arith) z f)
    ∙ ap as_integer (parse-signed_decimal w32 z (signed_decimal z) (read_signed (signed_decimal z)) f (omega (arith, f.sfits)) refl (reads (signed_decimal z)))
read_back (boolean None) r = refl
read_back (boolean (Some true)) r = refl
read_back (boolean (Some false)) r = refl

op_named : (op : Op) → op_of_name (op_name op) ≡ Some op
op_named Add = refl
op_named Sub = refl
op_named Mul = refl
op_named Div = refl
op_named Less = refl
op_named Same = refl
op_named And = refl
op_named Or = refl

pub laws : Laws
laws = record {
  and_law = record { sound = and_sound; complete = and_complete };
  or_law = record { sound = or_sound; complete = or_complete };
  negate_law = negate_sound;
  div_law = div_law;
  op_named = op_named;
  read_back = read_back;
}
