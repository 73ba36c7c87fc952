-- The first wrong word, and why words do not decode.
use Rattle.std.proofs.Common.{◌≡◌, ℕ, suc, ◌+◌, ◌%◌, true, false, not, ◌&&◌, ◌||◌, cond, List, [], ◌∷◌, ◌++◌, map, length, get_or, Option, Some, None, Err, IsErr, Bor, refl, sym, ◌∙◌, inl, inr, arith}
use Rattle.std.proofs.lemmas.Bool.{cases_eq}
use Rattle.std.proofs.lemmas.Iterator.Adapters.{position_from-zero}
use Rattle.std.proofs.lemmas.List.Folds.{list_all-append}
use Rattle.std.proofs.lemmas.List.Sums.{AllPass-from_list_all}
use Rattle.std.specs.Char.{is_ascii_hexdigit}
use Rattle.std.specs.List.{list_all, concat, position, position_from}
use Rattle.hex.specs.Hex.{decode_of, is_hex_digit}
use Rattle.hex.specs.declared.error.FromHexError.TheVariants.{OddLength}
use Rattle.hex.proofs.HexLemmas.{decode_of-digits, decode_of-odd}
use Rattle.inspect.specs.Words.{wrong, first_wrong_from, first_wrong}

-- std and hex have the same digits
same_digit : (b : ℕ) → is_ascii_hexdigit b ≡ is_hex_digit b
same_digit b = grind arith

pub is_wrong_is : (word : List ℕ) → not (list_all is_ascii_hexdigit word) ≡ wrong word
is_wrong_is [] = refl
is_wrong_is (b ∷ rest) =
    let same = same_digit b in
    let later = is_wrong_is rest in
    rw same (elim (is_hex_digit b) as (λ d. not (d && list_all is_ascii_hexdigit rest) ≡ (not d || wrong rest)) [ true ↦ later | false ↦ refl ])

digits : (word : List ℕ) → wrong word ≡ false → list_all is_hex_digit word ≡ true
digits [] h = refl
digits (b ∷ rest) h =
    elim (is_hex_digit b) as (λ d. (not d || wrong rest) ≡ false → (d && list_all is_hex_digit rest) ≡ true) [
      | true ↦ λ h. digits rest h
      | false ↦ λ h. cc h
    ] h

all_digits : (words : List (List ℕ)) (n : ℕ) → first_wrong_from n words ≡ None → list_all is_hex_digit (concat words) ≡ true
all_digits [] n h = refl
all_digits (word ∷ rest) n h =
    elim (wrong word) as (λ b. wrong word ≡ b → cond b (Some (n, word)) (first_wrong_from (n + 1) rest) ≡ None → list_all is_hex_digit (word ++ concat rest) ≡ true) [
      | true ↦ λ e h. cc h
      | false ↦ λ e h. let here = digits word e in let later = all_digits rest (n + 1) h in rw (list_all-append, here) later
    ] refl h

pub odd_number : (words : List (List ℕ)) → first_wrong words ≡ None → IsErr (decode_of (concat words)) → decode_of (concat words) ≡ Err OddLength
odd_number words none err =
    let s = concat words in
    elim (cases_eq (length s % 2) 1) [
      | inl odd ↦ decode_of-odd s odd
      | inr even ↦
          let r = decode_of-digits s (omega arith) (AllPass-from_list_all is_hex_digit s (all_digits words 1 none)) in
          cc (rw r.1 at err)
    ]

-- the words as a function has them
abbrev texts : List (Bor (List ℕ)) → List (List ℕ)
texts words = map (λ w. w.now) words

abbrev place : ℕ → List (Bor (List ℕ)) → Option ℕ
place i words = position_from (λ w. wrong w.now) i words

named_from : (words : List (Bor (List ℕ))) (d : Bor (List ℕ)) (i k : ℕ) → place i words ≡ Some k
    → (j : ℕ) × (k ≡ i + j) × (first_wrong_from (i + 1) (texts words) ≡ Some (k + 1, (get_or words j d).now))
named_from [] d i k h = cc h
named_from (w ∷ rest) d i k h =
    elim (wrong w.now) as (λ b. cond b (Some i) (place (i + 1) rest) ≡ Some k
    → (j : ℕ) × (k ≡ i + j) × (cond b (Some (i + 1, w.now)) (first_wrong_from (i + 1 + 1) (texts rest)) ≡ Some (k + 1, (get_or (w ∷ rest) j d).now))) [
      | true ↦ λ h. let e : i ≡ k = cc in (0, omega arith, rw e refl)
      | false ↦ λ h. let r = named_from rest d (i + 1) k h in (suc r.0, omega (arith, r.1), r.2)
    ] h

none_from : (words : List (Bor (List ℕ))) (i n : ℕ) → place i words ≡ None → first_wrong_from n (texts words) ≡ None
none_from [] i n h = refl
none_from (w ∷ rest) i n h =
    elim (wrong w.now) as (λ b. cond b (Some i) (place (i + 1) rest) ≡ None → cond b (Some (n, w.now)) (first_wrong_from (n + 1) (texts rest)) ≡ None) [
      | true ↦ λ h. cc h
      | false ↦ λ h. none_from rest (i + 1) (n + 1) h
    ] h

module _ (words : List (Bor (List ℕ))) (r : Option ℕ) (found : r ≡ position (λ w. wrong w.now) words) where
  at_place : r ≡ place 0 words
  at_place = found ∙ position_from-zero (λ w. wrong w.now) words

  pub named : (d : Bor (List ℕ)) (k : ℕ) → r ≡ Some k → first_wrong (texts words) ≡ Some (k + 1, (get_or words k d).now)
  named d k h =
      let n = named_from words d 0 k (sym at_place ∙ h) in
      let e : n.0 ≡ k = omega (arith, n.1) in
      rw e at n.2

  pub none_wrong : r ≡ None → first_wrong (texts words) ≡ None
  none_wrong h = none_from words 0 1 (sym at_place ∙ h)
