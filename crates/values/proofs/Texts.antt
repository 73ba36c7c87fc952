-- What is read from a text.
use Rattle.std.specs.List.{list_all}
use Rattle.std.proofs.Common.{◌≡◌, ℕ, Bool, true, false, cond, ◌&&◌, List, [], ◌∷◌, ℤ, pos, negsuc, Ok, Err, codes, Decides, refl, ap, ◌∙◌, arith, w32, SFits}
use Rattle.std.proofs.lemmas.Slice.Eq.{bytes_eq-Decides}
use Rattle.std.proofs.lemmas.Bool.Decides.{nat_tests}
use Rattle.std.proofs.lemmas.Str.Parse.{IsNumeralModel, numerals_by_value, tells_all_ascii_digits}
use Rattle.std.specs.Str.Parse.{without_leading_sign, signed_digits_value, IsNumeral, digits_value}
use Rattle.std.specs.Char.{is_ascii_digit}
use Rattle.std.specs.Str.{all_ascii_digits, bytes_eq}
use Rattle.values.specs.declared.value.TextFault.TheVariants.{NotAValue, OutOfRange}
use Rattle.values.specs.Texts.{is_numeral, read_signed, read_value, as_integer}
use Rattle.values.specs.Values.{in_range}

not_true : (b : Bool) → (b ≡ true → ⊥) → b ≡ false
not_true true n = absurd (n refl)
not_true false n = refl

pub own : IsNumeralModel (λ ds. all_ascii_digits ds ≡ true) (digits_value 10)
own = numerals_by_value _ tells_all_ascii_digits

pub numeral_tells : (bs : List ℕ) → Decides (is_numeral bs) (IsNumeral 10 (without_leading_sign bs))
numeral_tells bs = (
  λ e. (grind (arith, nat_tests), own.to (without_leading_sign bs) (grind (arith, nat_tests))),
  λ n. let d = own.from (without_leading_sign bs) n.1 in grind (arith, nat_tests),
)

pub range_tells : (z : ℤ) → Decides (in_range z) (SFits w32 z)
range_tells (pos n) = (λ e. record { sfits = grind (arith, nat_tests) }, λ f. grind (arith, nat_tests))
range_tells (negsuc n) = (λ e. record { sfits = grind (arith, nat_tests) }, λ f. grind (arith, nat_tests))

-- the definition is what the library's reading of an `i32` answers
pub read_ok : (bs : List ℕ) → IsNumeral 10 (without_leading_sign bs) → SFits w32 (signed_digits_value 10 bs) → read_signed bs ≡ Ok (signed_digits_value 10 bs)
read_ok bs n f =
    let z = signed_digits_value 10 bs in
    ap (λ (b : Bool). cond b (cond (in_range z) (Ok z) (Err OutOfRange)) (Err NotAValue)) ((numeral_tells bs).1 n)
    ∙ ap (λ (b : Bool). cond b (Ok z) (Err OutOfRange)) ((range_tells z).1 f)

pub read_out : (bs : List ℕ) → is_numeral bs ≡ true → (SFits w32 (signed_digits_value 10 bs) → ⊥) → read_signed bs ≡ Err OutOfRange
read_out bs n out =
    let z = signed_digits_value 10 bs in
    ap (λ (b : Bool). cond b (cond (in_range z) (Ok z) (Err OutOfRange)) (Err NotAValue)) n
    ∙ ap (λ (b : Bool). cond b (Ok z) (Err OutOfRange)) (not_true _ (λ e. out ((range_tells z).0 e)))

pub not_same : (xs ys : List ℕ) → (xs ≡ ys → ⊥) → bytes_eq xs ys ≡ false
not_same xs ys n = not_true _ (λ e. n ((bytes_eq-Decides xs ys).0 e))

-- a text that is none of the four words writes a number or nothing
pub read_other : (bs : List ℕ) → (bs ≡ codes "?i" → ⊥) → (bs ≡ codes "?b" → ⊥) → (bs ≡ codes "true" → ⊥) → (bs ≡ codes "false" → ⊥) → read_value bs ≡ as_integer (read_signed bs)
read_other bs i b t f = rw (not_same bs _ i, not_same bs _ b, not_same bs _ t, not_same bs _ f)

-- digits one by one, as the library's walk asks for them
pub digits_all : (bs : List ℕ) → list_all is_ascii_digit bs ≡ all_ascii_digits bs
digits_all [] = refl
digits_all (b ∷ bs) = ap (λ (r : Bool). is_ascii_digit b && r) (digits_all bs)
