-- The head of a class and its bytes.
use Rattle.std.proofs.Common.{◌≡◌, ℕ, zero, suc, ◌+◌, ◌-◌, ◌*◌, ◌/◌, ◌%◌, ◌<◌, ◌≤◌, Bool, true, false, cond, eqb, ltb, leb, List, [], ◌∷◌, ◌++◌, map, length, drop, replicate, ℤ, pos, negsuc, Some, None, sym, refl, ap, ◌∙◌, subst, append_assoc, arith, w32, SFits, to_z, of_z, ltb-false, ltb-true, le-ltb, lt-ltb, eq-eqb, ne_eqb, eqb-true}
use Rattle.std.specs.List.{AllByRecursion}
use borrow.Author.Tests.{lt-leb}
use Rattle.std.proofs.lemmas.List.{drop_more}
use Rattle.std.proofs.lemmas.Int.{of_z-to_z, to_z-of_z, ints}
use Rattle.values.specs.declared.kind.Kind.{Kind}
use Rattle.values.specs.declared.kind.Kind.TheVariants.{Integer, Boolean}
use Rattle.values.specs.declared.row.Row.{Row}
use Rattle.values.specs.Kinds.{kind_number}
use Rattle.values.specs.Laws.{Ranged}
use Rattle.values.specs.Rows.{valid, row_of, value_of_row}
use Rattle.values.specs.Values.{Val, integer, boolean, in_range}
use Rattle.commands.specs.Bytes.{long, row_bytes, variables_bytes, direction, declaration_bytes, declarations_bytes}
use Rattle.commands.specs.Numbers.{four_bytes}
use Rattle.commands.specs.Trees.{Declaration}
use Rattle.heads.specs.Heads.{byte, integer_at, row_at, values_at, kind_at, value_kinds, declaration_at, declarations_at, is_kind, kind_fits, declarations_place, class_declarations}
use Rattle.commands.specs.ByteLists.{Bytes}
use Rattle.admission.specs.Conditions.{DeclarationKept}
use Rattle.admission.proofs.ClassHeads.{VariableValid, VariablesValid, DeclarationValid, DeclarationsValid, HeadValid, head_end, byte_below, values_count, declarations_count, value_kinds_count}
use Rattle.admission.proofs.ClassParts.{class_values}
use Rattle.admission.proofs.Exchanges.{same_fields}
use Rattle.admission.proofs.Ranges.{long_below}

long_back : (a b c d : ℕ) → a < 256 → b < 256 → c < 256 → d < 256 → long (four_bytes a b c d) ≡ a ∷ b ∷ c ∷ d ∷ []
long_back a b c d p q r s =
    let w : four_bytes a b c d % 256 ≡ a = omega arith in
    let u : four_bytes a b c d / 256 ≡ b + c * 256 + d * 65536 = omega arith in
    let v : four_bytes a b c d / 65536 ≡ c + d * 256 = omega arith in
    let x : (b + c * 256 + d * 65536) % 256 ≡ b = omega arith in
    let y : (c + d * 256) % 256 ≡ c = omega arith in
    let z : four_bytes a b c d / 16777216 ≡ d = omega arith in
    rw (w, u, x, v, y, z)

abbrev row : ℕ → ℕ → ℤ → Row
row k n z = record { kind = k; known = n; number = z }

not_0 : (n : ℕ) → eqb (suc n) 0 ≡ false
not_0 n = ne_eqb (suc n) 0 (λ e. omega arith)

not_1 : (n : ℕ) → eqb (suc (suc n)) 1 ≡ false
not_1 n = ne_eqb (suc (suc n)) 1 (λ e. omega arith)

not_2 : (n : ℕ) → eqb (suc (suc (suc n))) 2 ≡ false
not_2 n = ne_eqb (suc (suc (suc n))) 2 (λ e. omega arith)

over_1 : (n : ℕ) → leb (suc (suc n)) 1 ≡ false
over_1 n = lt-leb (suc (suc n)) 1 (omega arith)

pub row_back : (k n : ℕ) (z : ℤ) → valid (row k n z) ≡ true → row_of (value_of_row (row k n z)) ≡ row k n z
row_back zero n z h = absurd (let w : ◌≡◌ {A = ℕ} 0 1 = cc in omega arith)
row_back (suc zero) zero (pos zero) h = refl
row_back (suc zero) zero (pos (suc z)) h = absurd (let w : ◌≡◌ {A = ℕ} 0 1 = cc (not_0 z) in omega arith)
row_back (suc zero) zero (negsuc z) h = absurd (let w : ◌≡◌ {A = ℕ} 0 1 = cc in omega arith)
row_back (suc zero) (suc zero) z h = refl
row_back (suc zero) (suc (suc n)) z h = absurd (let w : ◌≡◌ {A = ℕ} 0 1 = cc (not_0 (suc n), not_1 n) in omega arith)
row_back (suc (suc zero)) zero (pos zero) h = refl
row_back (suc (suc zero)) zero (pos (suc z)) h = absurd (let w : ◌≡◌ {A = ℕ} 0 1 = cc (not_0 z) in omega arith)
row_back (suc (suc zero)) zero (negsuc z) h = absurd (let w : ◌≡◌ {A = ℕ} 0 1 = cc in omega arith)
row_back (suc (suc zero)) (suc zero) (pos zero) h = refl
row_back (suc (suc zero)) (suc zero) (pos (suc zero)) h = refl
row_back (suc (suc zero)) (suc zero) (pos (suc (suc z))) h = absurd (let w : ◌≡◌ {A = ℕ} 0 1 = cc (not_0 (suc z), over_1 z) in omega arith)
row_back (suc (suc zero)) (suc zero) (negsuc z) h = absurd (let w : ◌≡◌ {A = ℕ} 0 1 = cc in omega arith)
row_back (suc (suc zero)) (suc (suc n)) z h = absurd (let w : ◌≡◌ {A = ℕ} 0 1 = cc (not_0 (suc n), not_1 n) in omega arith)
row_back (suc (suc (suc k))) n z h = absurd (let w : ◌≡◌ {A = ℕ} 0 1 = cc (not_1 (suc k), not_2 k) in omega arith)

-- from the bytes to the tree: a variable
pub drop_two : (f : List ℕ) (at : ℕ) → at + 2 ≤ length f → drop at f ≡ byte f at ∷ byte f (at + 1) ∷ drop (at + 2) f
drop_two f at h =
    let e : at + 1 + 1 ≡ at + 2 = omega arith in
    let a = drop_more f at 0 (omega arith) in
    let b = drop_more f (at + 1) 0 (omega arith) in
    rw (a, b, e)

drop_four : (f : List ℕ) (at : ℕ) → at + 4 ≤ length f → drop at f ≡ byte f at ∷ byte f (at + 1) ∷ byte f (at + 2) ∷ byte f (at + 3) ∷ drop (at + 4) f
drop_four f at h =
    let a = drop_two f at (omega arith) in
    let b = drop_two f (at + 2) (omega arith) in
    let x : at + 2 + 1 ≡ at + 3 = omega arith in
    let y : at + 2 + 2 ≡ at + 4 = omega arith in
    rw (a, b, x, y)

pub integer_bytes : (f : List ℕ) (at : ℕ) → Bytes f → long (of_z w32 (integer_at f at)) ≡ byte f at ∷ byte f (at + 1) ∷ byte f (at + 2) ∷ byte f (at + 3) ∷ []
integer_bytes f at h =
    let a = byte_below f at h in
    let b = byte_below f (at + 1) h in
    let c = byte_below f (at + 2) h in
    let d = byte_below f (at + 3) h in
    ap long (of_z-to_z w32 (four_bytes (byte f at) (byte f (at + 1)) (byte f (at + 2)) (byte f (at + 3))) (long_below _ _ _ _ a b c d)) ∙ long_back _ _ _ _ a b c d

variable_read : (f : List ℕ) (at : ℕ) → Bytes f → VariableValid f at → drop at f ≡ row_bytes (row_of (value_of_row (row_at f at))) ++ drop (at + 6) f
variable_read f at bs v =
    let w = v.within in
    let a = drop_two f at (omega arith) in
    let b = drop_four f (at + 2) (omega arith) in
    let e : at + 2 + 4 ≡ at + 6 = omega arith in
    let back = row_back (byte f at) (byte f (at + 1)) (integer_at f (at + 2)) v.row in
    rw (a, b, e, back) (ap (λ l. byte f at ∷ byte f (at + 1) ∷ (l ++ drop (at + 6) f)) (sym (integer_bytes f (at + 2) bs)))

pub variables_read : (n : ℕ) (f : List ℕ) (at : ℕ) → Bytes f → VariablesValid n f at → drop at f ≡ variables_bytes (values_at n f at) ++ drop (at + 6 * n) f
variables_read zero f at bs v = let e : at ≡ at + 0 = omega arith in ap (λ i. drop i f) e
variables_read (suc n) f at bs v =
    let e : at + 6 + 6 * n ≡ at + 6 * suc n = omega arith in
    variable_read f at bs v.0
    ∙ ap (λ l. row_bytes (row_of (value_of_row (row_at f at))) ++ l) (variables_read n f (at + 6) bs v.1 ∙ ap (λ i. variables_bytes (values_at n f (at + 6)) ++ drop i f) e)
    ∙ sym (append_assoc (row_bytes (row_of (value_of_row (row_at f at)))) (variables_bytes (values_at n f (at + 6))) (drop (at + 6 * suc n) f))

-- a declaration
direction_back : (b : ℕ) → b < 2 → direction (eqb b 1) ≡ b
direction_back zero h = refl
direction_back (suc zero) h = refl
direction_back (suc (suc b)) h = absurd (omega arith)

kind_back : (b : ℕ) → is_kind b ≡ true → kind_number (cond (eqb b 2) Boolean Integer) ≡ b
kind_back zero h = absurd (let w : ◌≡◌ {A = ℕ} 0 1 = cc in omega arith)
kind_back (suc zero) h = refl
kind_back (suc (suc zero)) h = refl
kind_back (suc (suc (suc b))) h = absurd (let w : ◌≡◌ {A = ℕ} 0 1 = cc (not_1 (suc b), not_2 b) in omega arith)

fits_used : (i n b : ℕ) → i < n → kind_fits i n b ≡ is_kind b
fits_used i n b h = rw (lt-ltb i n h)

fits_unused : (i n b : ℕ) → n ≤ i → kind_fits i n b ≡ eqb b 0
fits_unused i n b h = rw (le-ltb i n h)

less_moved : (i n : ℕ) (t : Bool) → ltb i n ≡ t → ltb (suc i) (suc n) ≡ t
less_moved i n true e = let l = ltb-true i n e in lt-ltb (suc i) (suc n) (omega arith)
less_moved i n false e = let l = ltb-false i n e in le-ltb (suc i) (suc n) (omega arith)

fits_moved : (i n b : ℕ) → kind_fits (suc i) (suc n) b ≡ kind_fits i n b
fits_moved i n b = ap (λ t. cond t (is_kind b) (eqb b 0)) (less_moved i n (ltb i n) refl)

fits_on : (f : List ℕ) (at i n : ℕ) → kind_fits (suc i) (suc n) (byte f (at + suc i)) ≡ true → kind_fits i n (byte f (at + 1 + i)) ≡ true
fits_on f at i n h = let e : at + suc i ≡ at + 1 + i = omega arith in subst (λ j. kind_fits i n (byte f j) ≡ true) e (sym (fits_moved i n (byte f (at + suc i))) ∙ h)

unused_on : (f : List ℕ) (at i : ℕ) → kind_fits (suc i) 0 (byte f (at + suc i)) ≡ true → kind_fits i 0 (byte f (at + 1 + i)) ≡ true
unused_on f at i h =
    let e : at + suc i ≡ at + 1 + i = omega arith in
    fits_unused i 0 (byte f (at + 1 + i)) (omega arith) ∙ subst (λ j. eqb (byte f j) 0 ≡ true) e (sym (fits_unused (suc i) 0 (byte f (at + suc i)) (omega arith)) ∙ h)

-- the kinds of n values and k unused bytes
kinds_read : (n k : ℕ) (f : List ℕ) (at : ℕ) → at + (n + k) ≤ length f → ((i : ℕ) → i < n + k → kind_fits i n (byte f (at + i)) ≡ true) → drop at f ≡ (map kind_number (value_kinds n f at) ++ replicate k 0) ++ drop (at + (n + k)) f
kinds_read zero zero f at w h = let e : at ≡ at + 0 = omega arith in ap (λ i. drop i f) e
kinds_read zero (suc k) f at w h =
    let z : at + 0 ≡ at = omega arith in
    let a = drop_more f at 0 (omega arith) in
    let b : byte f at ≡ 0 = eqb-true (byte f at) 0 (subst (λ i. eqb (byte f i) 0 ≡ true) z (h 0 (omega arith))) in
    let e : at + 1 + (0 + k) ≡ at + (0 + suc k) = omega arith in
    let shift : (i : ℕ) → i < 0 + k → kind_fits i 0 (byte f (at + 1 + i)) ≡ true = λ i l. unused_on f at i (h (suc i) (omega arith)) in
    let r = kinds_read zero k f (at + 1) (omega arith) shift in
    a ∙ ap (λ x. x ∷ drop (at + 1) f) b ∙ ap (λ l. 0 ∷ l) (r ∙ ap (λ i. replicate k 0 ++ drop i f) e)
kinds_read (suc n) k f at w h =
    let z : at + 0 ≡ at = omega arith in
    let a = drop_more f at 0 (omega arith) in
    let b : kind_number (kind_at f at) ≡ byte f at = kind_back (byte f at) (subst (λ i. is_kind (byte f i) ≡ true) z (sym (fits_used 0 (suc n) (byte f (at + 0)) (omega arith)) ∙ h 0 (omega arith))) in
    let e : at + 1 + (n + k) ≡ at + (suc n + k) = omega arith in
    let shift : (i : ℕ) → i < n + k → kind_fits i n (byte f (at + 1 + i)) ≡ true = λ i l. fits_on f at i n (h (suc i) (omega arith)) in
    let r = kinds_read n k f (at + 1) (omega arith) shift in
    a ∙ ap (λ x. x ∷ drop (at + 1) f) (sym b) ∙ ap (λ l. kind_number (kind_at f at) ∷ l) (r ∙ ap (λ i. (map kind_number (value_kinds n f (at + 1)) ++ replicate k 0) ++ drop i f) e)

declaration_read : (f : List ℕ) (at : ℕ) → DeclarationValid f at → drop at f ≡ declaration_bytes (declaration_at f at) ++ drop (at + 8) f
declaration_read f at v =
    let w = v.within in
    let n = byte f (at + 3) in
    let few = v.count in
    let count : length (value_kinds n f (at + 4)) ≡ n = value_kinds_count n f (at + 4) in
    let four : n + (4 - n) ≡ 4 = omega arith in
    let e : at + 4 + (n + (4 - n)) ≡ at + 8 = omega arith in
    let a = drop_four f at (omega arith) in
    let b = kinds_read n (4 - n) f (at + 4) (omega arith) (λ i l. v.kind i (omega arith)) in
    a
    ∙ ap (λ l. byte f at ∷ byte f (at + 1) ∷ byte f (at + 2) ∷ n ∷ l) (b ∙ ap (λ i. (map kind_number (value_kinds n f (at + 4)) ++ replicate (4 - n) 0) ++ drop i f) e)
    ∙ ap (λ d. d ∷ byte f (at + 1) ∷ byte f (at + 2) ∷ n ∷ ((map kind_number (value_kinds n f (at + 4)) ++ replicate (4 - n) 0) ++ drop (at + 8) f)) (sym (direction_back (byte f at) v.direction))
    ∙ ap (λ m. direction (eqb (byte f at) 1) ∷ byte f (at + 1) ∷ byte f (at + 2) ∷ m ∷ ((map kind_number (value_kinds n f (at + 4)) ++ replicate (4 - m) 0) ++ drop (at + 8) f)) (sym count)

pub declarations_read : (n : ℕ) (f : List ℕ) (at : ℕ) → DeclarationsValid n f at → drop at f ≡ declarations_bytes (declarations_at n f at) ++ drop (at + 8 * n) f
declarations_read zero f at v = let e : at ≡ at + 0 = omega arith in ap (λ i. drop i f) e
declarations_read (suc n) f at v =
    let e : at + 8 + 8 * n ≡ at + 8 * suc n = omega arith in
    declaration_read f at v.0
    ∙ ap (λ l. declaration_bytes (declaration_at f at) ++ l) (declarations_read n f (at + 8) v.1 ∙ ap (λ i. declarations_bytes (declarations_at n f (at + 8)) ++ drop i f) e)
    ∙ sym (append_assoc (declaration_bytes (declaration_at f at)) (declarations_bytes (declarations_at n f (at + 8))) (drop (at + 8 * suc n) f))

-- the bytes of a head
abbrev pub head_bytes : List Val → List Declaration → List ℕ → List ℕ
head_bytes vs ds rest = length vs ∷ (variables_bytes vs ++ (length ds ∷ (declarations_bytes ds ++ rest)))

pub head_read : (f : List ℕ) (at : ℕ) → Bytes f → HeadValid f at → drop at f ≡ head_bytes (class_values f at) (class_declarations f at) (drop (head_end f at) f)
head_read f at bs h =
    let w = h.within in
    let p = declarations_place f at in
    let n = byte f at in
    let m = byte f p in
    let vs = class_values f at in
    let ds = class_declarations f at in
    let a : drop at f ≡ n ∷ drop (at + 1) f = drop_more f at 0 (omega arith) in
    let b : drop (at + 1) f ≡ variables_bytes vs ++ drop p f = variables_read n f (at + 1) bs h.variables in
    let c : drop p f ≡ m ∷ drop (p + 1) f = drop_more f p 0 (omega arith) in
    let d : drop (p + 1) f ≡ declarations_bytes ds ++ drop (p + 1 + 8 * m) f = declarations_read m f (p + 1) h.declarations in
    let e : p + 1 + 8 * m ≡ head_end f at = omega arith in
    a
    ∙ ap (λ i. i ∷ drop (at + 1) f) (sym (values_count n f (at + 1)))
    ∙ ap (λ l. length vs ∷ l) (b ∙ ap (λ l. variables_bytes vs ++ l) (c ∙ ap (λ i. i ∷ drop (p + 1) f) (sym (declarations_count m f (p + 1))) ∙ ap (λ l. length ds ∷ l) (d ∙ ap (λ i. declarations_bytes ds ++ drop i f) e)))

-- from the tree to the bytes
pub next_byte : (f : List ℕ) (at b : ℕ) (rest : List ℕ) → drop at f ≡ b ∷ rest → (byte f at ≡ b) × (drop (at + 1) f ≡ rest) × (at < length f)
next_byte [] zero b rest e = absurd (let w : ◌≡◌ {A = ℕ} 0 1 = cc in omega arith)
next_byte [] (suc at) b rest e = absurd (let w : ◌≡◌ {A = ℕ} 0 1 = cc in omega arith)
next_byte (y ∷ f) zero b rest e = let p : y ≡ b = cc in let q : f ≡ rest = cc in (p, q, omega arith)
next_byte (y ∷ f) (suc at) b rest e =
    let p = next_byte f at b rest e in
    let n : suc at + 1 ≡ suc (at + 1) = omega arith in
    (p.0, ap (λ m. drop m (y ∷ f)) n ∙ p.1, omega (arith, p.2))

long_written : (n : ℕ) → four_bytes (n % 256) (n / 256 % 256) (n / 65536 % 256) (n / 16777216) ≡ n
long_written n =
    let a : n / 256 / 256 ≡ n / 65536 = omega arith in
    let b : n / 65536 / 256 ≡ n / 16777216 = omega arith in
    let x : n ≡ n / 256 * 256 + n % 256 = omega arith in
    let y : n / 256 ≡ n / 65536 * 256 + n / 256 % 256 = omega arith in
    let z : n / 65536 ≡ n / 16777216 * 256 + n / 65536 % 256 = omega arith in
    omega (arith, x, y, z)

fits_range : (z : ℤ) → in_range z ≡ true → SFits w32 z
fits_range z h = grind (arith, ints)

row_valid : (v : Val) → valid (row_of v) ≡ true
row_valid (integer None) = refl
row_valid (integer (Some z)) = refl
row_valid (boolean None) = refl
row_valid (boolean (Some false)) = refl
row_valid (boolean (Some true)) = refl

pub value_back : (v : Val) → value_of_row (row_of v) ≡ v
value_back (integer None) = refl
value_back (integer (Some z)) = refl
value_back (boolean None) = refl
value_back (boolean (Some false)) = refl
value_back (boolean (Some true)) = refl

row_fields : (v : Val) → Ranged v → (is_kind (row_of v).kind ≡ true) × ((row_of v).known < 2) × (in_range (row_of v).number ≡ true)
row_fields (integer None) h = (refl, omega arith, refl)
row_fields (integer (Some z)) h = (refl, omega arith, h)
row_fields (boolean None) h = (refl, omega arith, refl)
row_fields (boolean (Some false)) h = (refl, omega arith, refl)
row_fields (boolean (Some true)) h = (refl, omega arith, refl)

record FourWritten (f : List ℕ) (at a b c d : ℕ) (rest : List ℕ) : Type 0 where
  first : byte f at ≡ a
  second : byte f (at + 1) ≡ b
  third : byte f (at + 2) ≡ c
  fourth : byte f (at + 3) ≡ d
  left : drop (at + 4) f ≡ rest
  within : at + 4 ≤ length f

four_written : (f : List ℕ) (at a b c d : ℕ) (rest : List ℕ) → drop at f ≡ a ∷ b ∷ c ∷ d ∷ rest → FourWritten f at a b c d rest
four_written f at a b c d rest e =
    let p = next_byte f at a (b ∷ c ∷ d ∷ rest) e in
    let q = next_byte f (at + 1) b (c ∷ d ∷ rest) p.1 in
    let n : at + 1 + 1 ≡ at + 2 = omega arith in
    let r = next_byte f (at + 2) c (d ∷ rest) (subst (λ i. drop i f ≡ c ∷ d ∷ rest) n q.1) in
    let m : at + 2 + 1 ≡ at + 3 = omega arith in
    let s = next_byte f (at + 3) d rest (subst (λ i. drop i f ≡ d ∷ rest) m r.1) in
    let k : at + 3 + 1 ≡ at + 4 = omega arith in
    record { first = p.0; second = q.0; third = r.0; fourth = s.0; left = subst (λ i. drop i f ≡ rest) k s.1; within = omega (arith, s.2) }

integer_written : (f : List ℕ) (at : ℕ) (z : ℤ) (rest : List ℕ) → in_range z ≡ true → drop at f ≡ long (of_z w32 z) ++ rest → (integer_at f at ≡ z) × (drop (at + 4) f ≡ rest) × (at + 4 ≤ length f)
integer_written f at z rest h e =
    let n = of_z w32 z in
    let w = four_written f at (n % 256) (n / 256 % 256) (n / 65536 % 256) (n / 16777216) rest e in
    let a = w.first in
    let b = w.second in
    let c = w.third in
    let d = w.fourth in
    let all : four_bytes (byte f at) (byte f (at + 1)) (byte f (at + 2)) (byte f (at + 3)) ≡ n = rw (a, b, c, d) (long_written n) in
    (ap (to_z w32) all ∙ to_z-of_z w32 z (fits_range z h), w.left, w.within)

same_rows : (a b c d : ℕ) (y z : ℤ) → a ≡ b → c ≡ d → y ≡ z → row a c y ≡ row b d z
same_rows a b c d y z p q r = cc

-- a variable's value stands as it was written
variable_written : (f : List ℕ) (at : ℕ) (v : Val) (rest : List ℕ) → Ranged v → drop at f ≡ row_bytes (row_of v) ++ rest → VariableValid f at × (value_of_row (row_at f at) ≡ v) × (drop (at + 6) f ≡ rest)
variable_written f at v rest h e =
    let r = row_of v in
    let k = row_fields v h in
    let p = next_byte f at r.kind (r.known ∷ (long (of_z w32 r.number) ++ rest)) e in
    let q = next_byte f (at + 1) r.known (long (of_z w32 r.number) ++ rest) p.1 in
    let n : at + 1 + 1 ≡ at + 2 = omega arith in
    let s = integer_written f (at + 2) r.number rest k.2 (subst (λ i. drop i f ≡ long (of_z w32 r.number) ++ rest) n q.1) in
    let m : at + 2 + 4 ≡ at + 6 = omega arith in
    let same : row_at f at ≡ r = same_rows _ _ _ _ _ _ p.0 q.0 s.0 in (
      record {
        within = omega (arith, s.2);
        kind = ap is_kind p.0 ∙ k.0;
        known = omega (arith, q.0, k.1);
        row = ap valid same ∙ row_valid v;
      },
      ap value_of_row same ∙ value_back v,
      subst (λ i. drop i f ≡ rest) m s.1,
    )

pub variables_written : (vs : List Val) (f : List ℕ) (at : ℕ) (rest : List ℕ) → AllByRecursion Ranged vs → drop at f ≡ variables_bytes vs ++ rest → VariablesValid (length vs) f at × (values_at (length vs) f at ≡ vs) × (drop (at + 6 * length vs) f ≡ rest)
variables_written [] f at rest h e = let n : at ≡ at + 0 = omega arith in (tt, refl, subst (λ i. drop i f ≡ rest) n e)
variables_written (v ∷ vs) f at rest h e =
    let a = variable_written f at v (variables_bytes vs ++ rest) h.0 (e ∙ append_assoc (row_bytes (row_of v)) (variables_bytes vs) rest) in
    let b = variables_written vs f (at + 6) rest h.1 a.2 in
    let n : at + 6 + 6 * length vs ≡ at + 6 * length (v ∷ vs) = omega arith in
    let x = a.1 in
    let y = b.1 in
    ((a.0, b.0), rw (x, y), subst (λ i. drop i f ≡ rest) n b.2)

-- the kinds of a declaration's values
fits_step : (f : List ℕ) (at n k : ℕ) → is_kind (byte f at) ≡ true → ((i : ℕ) → i < n + k → kind_fits i n (byte f (at + 1 + i)) ≡ true) → (i : ℕ) → i < suc n + k → kind_fits i (suc n) (byte f (at + i)) ≡ true
fits_step f at n k a h zero l =
    let z : at ≡ at + 0 = omega arith in
    fits_used 0 (suc n) (byte f (at + 0)) (omega arith) ∙ subst (λ j. is_kind (byte f j) ≡ true) z a
fits_step f at n k a h (suc i) l =
    let e : at + 1 + i ≡ at + suc i = omega arith in
    fits_moved i n (byte f (at + suc i)) ∙ subst (λ j. kind_fits i n (byte f j) ≡ true) e (h i (omega arith))

unused_step : (f : List ℕ) (at k : ℕ) → byte f at ≡ 0 → ((i : ℕ) → i < 0 + k → kind_fits i 0 (byte f (at + 1 + i)) ≡ true) → (i : ℕ) → i < 0 + suc k → kind_fits i 0 (byte f (at + i)) ≡ true
unused_step f at k a h zero l =
    let z : at ≡ at + 0 = omega arith in
    fits_unused 0 0 (byte f (at + 0)) (omega arith) ∙ subst (λ j. eqb (byte f j) 0 ≡ true) z (eq-eqb (byte f at) 0 a)
unused_step f at k a h (suc i) l =
    let e : at + 1 + i ≡ at + suc i = omega arith in
    fits_unused (suc i) 0 (byte f (at + suc i)) (omega arith) ∙ subst (λ j. eqb (byte f j) 0 ≡ true) e (sym (fits_unused i 0 (byte f (at + 1 + i)) (omega arith)) ∙ h i (omega arith))

kind_forth : (k : Kind) → cond (eqb (kind_number k) 2) Boolean Integer ≡ k
kind_forth Integer = refl
kind_forth Boolean = refl

kind_is : (k : Kind) → is_kind (kind_number k) ≡ true
kind_is Integer = refl
kind_is Boolean = refl

record KindsWritten (f : List ℕ) (at : ℕ) (ks : List Kind) (k : ℕ) (rest : List ℕ) : Type 0 where
  kinds : value_kinds (length ks) f at ≡ ks
  fit : (i : ℕ) → i < length ks + k → kind_fits i (length ks) (byte f (at + i)) ≡ true
  left : drop (at + (length ks + k)) f ≡ rest
  within : at + (length ks + k) ≤ length f

kinds_written : (ks : List Kind) (k : ℕ) (f : List ℕ) (at : ℕ) (rest : List ℕ) → at ≤ length f → drop at f ≡ (map kind_number ks ++ replicate k 0) ++ rest → KindsWritten f at ks k rest
kinds_written [] zero f at rest w e = let n : at ≡ at + (0 + 0) = omega arith in record { kinds = refl; fit = λ i l. absurd (omega arith); left = subst (λ i. drop i f ≡ rest) n e; within = omega arith }
kinds_written [] (suc k) f at rest w e =
    let p = next_byte f at 0 (replicate k 0 ++ rest) e in
    let r = kinds_written [] k f (at + 1) rest (omega (arith, p.2)) p.1 in
    let n : at + 1 + (0 + k) ≡ at + (0 + suc k) = omega arith in
    record { kinds = refl; fit = unused_step f at k p.0 r.fit; left = subst (λ i. drop i f ≡ rest) n r.left; within = omega (arith, r.within) }
kinds_written (j ∷ ks) k f at rest w e =
    let p = next_byte f at (kind_number j) ((map kind_number ks ++ replicate k 0) ++ rest) e in
    let r = kinds_written ks k f (at + 1) rest (omega (arith, p.2)) p.1 in
    let n : at + 1 + (length ks + k) ≡ at + (suc (length ks) + k) = omega arith in
    let x : kind_at f at ≡ j = ap (λ b. cond (eqb b 2) Boolean Integer) p.0 ∙ kind_forth j in
    let y = r.kinds in
    record { kinds = cc (x, y); fit = fits_step f at (length ks) k (ap is_kind p.0 ∙ kind_is j) r.fit; left = subst (λ i. drop i f ≡ rest) n r.left; within = omega (arith, r.within) }

direction_forth : (b : Bool) → (eqb (direction b) 1 ≡ b) × (direction b < 2)
direction_forth true = (refl, omega arith)
direction_forth false = (refl, omega arith)

declaration_written : (f : List ℕ) (at : ℕ) (d : Declaration) (rest : List ℕ) → DeclarationKept d → drop at f ≡ declaration_bytes d ++ rest → DeclarationValid f at × (declaration_at f at ≡ d) × (drop (at + 8) f ≡ rest)
declaration_written f at d rest h e =
    let n = length d.kinds in
    let few = h.exchange_kept.count_kept in
    let w = four_written f at (direction d.receives) d.channel d.message n ((map kind_number d.kinds ++ replicate (4 - n) 0) ++ rest) e in
    let ks = kinds_written d.kinds (4 - n) f (at + 4) rest w.within w.left in
    let dir = direction_forth d.receives in
    let count : byte f (at + 3) ≡ n = w.fourth in
    let end : at + 4 + (n + (4 - n)) ≡ at + 8 = omega arith in (
      record {
        within = omega (arith, ks.within);
        direction = omega (arith, w.first, dir.1);
        channel = omega (arith, w.second, h.exchange_kept.channel_kept);
        message = omega (arith, w.third, h.exchange_kept.message_kept);
        count = omega (arith, count);
        kind = λ i l. subst (λ m. kind_fits i m (byte f (at + 4 + i)) ≡ true) (sym count) (ks.fit i (omega arith));
      },
      same_fields _ d.receives _ d.channel _ d.message _ d.kinds (ap (λ b. eqb b 1) w.first ∙ dir.0) w.second w.third (ap (λ m. value_kinds m f (at + 4)) count ∙ ks.kinds),
      subst (λ i. drop i f ≡ rest) end ks.left,
    )

pub declarations_written : (ds : List Declaration) (f : List ℕ) (at : ℕ) (rest : List ℕ) → at ≤ length f → AllByRecursion DeclarationKept ds → drop at f ≡ declarations_bytes ds ++ rest → DeclarationsValid (length ds) f at × (declarations_at (length ds) f at ≡ ds) × (drop (at + 8 * length ds) f ≡ rest) × (at + 8 * length ds ≤ length f)
declarations_written [] f at rest w h e = let n : at ≡ at + 0 = omega arith in (tt, refl, subst (λ i. drop i f ≡ rest) n e, omega arith)
declarations_written (d ∷ ds) f at rest w h e =
    let a = declaration_written f at d (declarations_bytes ds ++ rest) h.0 (e ∙ append_assoc (declaration_bytes d) (declarations_bytes ds) rest) in
    let b = declarations_written ds f (at + 8) rest a.0.within h.1 a.2 in
    let n : at + 8 + 8 * length ds ≡ at + 8 * length (d ∷ ds) = omega arith in
    let x = a.1 in
    let y = b.1 in
    ((a.0, b.0), cc (x, y), subst (λ i. drop i f ≡ rest) n b.2, omega (arith, b.3))

pub record HeadWritten (f : List ℕ) (at : ℕ) (vs : List Val) (ds : List Declaration) (rest : List ℕ) : Type 0 where
  pub head : HeadValid f at
  pub variables : class_values f at ≡ vs
  pub declarations : class_declarations f at ≡ ds
  pub left : drop (head_end f at) f ≡ rest
  pub ends : head_end f at ≡ at + 2 + 6 * length vs + 8 * length ds

pub head_written : (f : List ℕ) (at : ℕ) (vs : List Val) (ds : List Declaration) (rest : List ℕ) → length vs ≤ 8 → AllByRecursion Ranged vs → length ds ≤ 16 → AllByRecursion DeclarationKept ds → drop at f ≡ head_bytes vs ds rest → HeadWritten f at vs ds rest
head_written f at vs ds rest vn vk dn dk e =
    let a = next_byte f at (length vs) (variables_bytes vs ++ (length ds ∷ (declarations_bytes ds ++ rest))) e in
    let b = variables_written vs f (at + 1) (length ds ∷ (declarations_bytes ds ++ rest)) vk a.1 in
    let n : byte f at ≡ length vs = a.0 in
    let p = at + 1 + 6 * length vs in
    let place : declarations_place f at ≡ p = ap (λ i. at + 1 + 6 * i) n in
    let c = next_byte f p (length ds) (declarations_bytes ds ++ rest) b.2 in
    let d = declarations_written ds f (p + 1) rest (omega (arith, c.2)) dk c.1 in
    let m : byte f (declarations_place f at) ≡ length ds = ap (byte f) place ∙ c.0 in
    let end : head_end f at ≡ at + 2 + 6 * length vs + 8 * length ds = omega (arith, n, m) in
    let there : p + 1 + 8 * length ds ≡ head_end f at = omega (arith, end) in
    record {
      head = record {
        within = omega (arith, end, d.3);
        variables_few = omega (arith, n);
        variables = subst (λ i. VariablesValid i f (at + 1)) (sym n) b.0;
        declarations_few = omega (arith, m);
        declarations = subst (λ i. DeclarationsValid i f (declarations_place f at + 1)) (sym m) (subst (λ i. DeclarationsValid (length ds) f (i + 1)) (sym place) d.0);
      };
      variables = ap (λ i. values_at i f (at + 1)) n ∙ b.1;
      declarations = ap (λ i. declarations_at i f (declarations_place f at + 1)) m ∙ ap (λ i. declarations_at (length ds) f (i + 1)) place ∙ d.1;
      left = subst (λ i. drop i f ≡ rest) there d.2;
      ends = end;
    }
