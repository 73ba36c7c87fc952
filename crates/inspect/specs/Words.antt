-- Words that are to write bytes in hexadecimal digits.
use Rattle.std.specs.Prelude.{◌≡◌, ℕ, ◌+◌, Bool, not, if◌then◌else◌, List, [], ◌∷◌, Option, Some, None, Err}
use Rattle.std.specs.List.{list_any, concat}
use Rattle.hex.specs.Hex.{decode_of, is_hex_digit}
use Rattle.hex.specs.declared.error.FromHexError.TheVariants.{OddLength}
use Rattle.inspect.specs.declared.digits.HexFault.{HexFault}
use Rattle.inspect.specs.declared.digits.HexFault.TheVariants.{Memory, Digit, Odd}

-- some byte of the word is no hexadecimal digit
abbrev pub wrong : List ℕ → Bool
wrong word = list_any (λ b. not (is_hex_digit b)) word

-- the first word that is wrong with its number, where the first of the words has the number n
abbrev pub first_wrong_from : ℕ → List (List ℕ) → Option (ℕ × List ℕ)
first_wrong_from n [] = None
first_wrong_from n (word ∷ rest) = if wrong word then Some (n, word) else first_wrong_from (n + 1) rest

-- the numbers of words begin at 1
abbrev pub first_wrong : List (List ℕ) → Option (ℕ × List ℕ)
first_wrong words = first_wrong_from 1 words

-- why the words write no bytes; nothing is said of memory that runs out
abbrev pub Refused : List (List ℕ) → HexFault → Type 0
Refused words (Memory _) = Unit {0}
Refused words (Digit number word) = first_wrong words ≡ Some (number, word.now)
Refused words Odd = (first_wrong words ≡ None) × (decode_of (concat words) ≡ Err OddLength)
