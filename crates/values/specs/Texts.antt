-- How a value is written, and which value a text writes.
use Rattle.std.specs.Prelude.{ℕ, Bool, true, false, cond, not, ◌&&◌, List, length, ℤ, Some, None, Ok, Err, codes, Option, Result, ◌==◌}
use Rattle.std.specs.Str.Parse.{without_leading_sign, signed_digits_value}
use Rattle.std.specs.Fmt.{signed_decimal}
use Rattle.std.specs.Str.{all_ascii_digits, bytes_eq}
use Rattle.values.specs.declared.value.TextFault.{TextFault}
use Rattle.values.specs.declared.value.TextFault.TheVariants.{NotAValue, OutOfRange}
use Rattle.values.specs.declared.value.Value.{Value}
use Rattle.values.specs.Values.{Val, integer, boolean, meaning, in_range}

abbrev pub number_text : Option ℤ → List ℕ
number_text None = codes "?i"
number_text (Some z) = signed_decimal z

abbrev pub truth_text : Option Bool → List ℕ
truth_text None = codes "?b"
truth_text (Some true) = codes "true"
truth_text (Some false) = codes "false"

abbrev pub text_of : Val → List ℕ
text_of (integer n) = number_text n
text_of (boolean b) = truth_text b

-- an optional sign, and one decimal digit or more
abbrev pub is_numeral : List ℕ → Bool
is_numeral bs = not (length (without_leading_sign bs) == 0) && all_ascii_digits (without_leading_sign bs)

-- the number that a text writes
abbrev pub read_signed : List ℕ → Result ℤ TextFault
read_signed bs =
    cond (is_numeral bs) (cond (in_range (signed_digits_value 10 bs)) (Ok (signed_digits_value 10 bs)) (Err OutOfRange)) (Err NotAValue)

abbrev pub as_integer : Result ℤ TextFault → Result Val TextFault
as_integer (Ok z) = Ok (integer (Some z))
as_integer (Err e) = Err e

abbrev pub read_value : List ℕ → Result Val TextFault
read_value bs =
    cond (bytes_eq bs (codes "?i")) (Ok (integer None))
    (cond (bytes_eq bs (codes "?b")) (Ok (boolean None))
    (cond (bytes_eq bs (codes "true")) (Ok (boolean (Some true)))
    (cond (bytes_eq bs (codes "false")) (Ok (boolean (Some false)))
    (as_integer (read_signed bs)))))

abbrev pub meaning_read : Result Value TextFault → Result Val TextFault
meaning_read (Ok v) = Ok (meaning v)
meaning_read (Err e) = Err e
