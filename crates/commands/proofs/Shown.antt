-- The bytes of a command that was read.
use Rattle.std.proofs.Common.{◌≡◌, ℕ, zero, suc, ◌+◌, ◌*◌, ◌/◌, ◌%◌, ◌^◌, ◌<◌, true, false, cond, eqb, List, [], ◌∷◌, ◌++◌, length, drop, Some, None, Option, sym, refl, ap, ◌∙◌, subst, arith, w32, to_z, eqb-true}
use mir.Facts.{sfits_to_z}
use Rattle.std.proofs.lemmas.Int.{of_z-to_z}
use Rattle.values.specs.declared.op.Op.{Op}
use Rattle.values.specs.declared.op.Op.TheVariants.{Add, Sub, Mul, Div, Less, Same, And, Or}
use Rattle.values.proofs.Texts.{range_tells}
use Rattle.values.specs.Values.{in_range}
use Rattle.commands.specs.declared.behaviour.BehaviourCommand.{BehaviourCommand}
use Rattle.commands.specs.declared.behaviour.BehaviourCommand.TheVariants.{Proc, Par, Hide, Rename}
use Rattle.commands.specs.declared.expression.ExpressionCommand.{ExpressionCommand}
use Rattle.commands.specs.declared.expression.ExpressionCommand.TheVariants.{Leaf as LeafC, Binary, Not}
use Rattle.commands.specs.declared.expression.Leaf.TheVariants.{Int, Bool as BoolL, Iunk, Var}
use Rattle.commands.specs.declared.statement.StatementCommand.{StatementCommand}
use Rattle.commands.specs.declared.statement.StatementCommand.TheVariants.{Skip, Set, Send, Recv, Seq, Sel, Guard, If, Do}
use Rattle.commands.specs.Behaviours.{behaviour_command, command_size as behaviour_command_size}
use Rattle.commands.specs.ByteLists.{Bytes}
use Rattle.commands.specs.Bytes.{word, long, op_byte}
use Rattle.commands.specs.Expressions.{expression_command, command_size as expression_command_size}
use Rattle.commands.specs.Numbers.{two_bytes, four_bytes, one, two, three, four, place}
use Rattle.commands.specs.Statements.{statement_command, seven, command_size as statement_command_size}
use Rattle.commands.proofs.Written.{expression_written, statement_written, behaviour_written, ExpressionFits, StatementFits, expression_long, statement_long, behaviour_long, Has, has}

low : (a b : ℕ) → a < 256 → two_bytes a b % 256 ≡ a
low a b p = omega arith

word_made : (a b : ℕ) → a < 256 → b < 256 → word (two_bytes a b) ≡ a ∷ b ∷ []
word_made a b p q =
    let x : two_bytes a b % 256 ≡ a = low a b p in
    let y : two_bytes a b / 256 ≡ b = omega arith in
    rw (x, y)

long_made : (a b c d : ℕ) → a < 256 → b < 256 → c < 256 → d < 256 → long (four_bytes a b c d) ≡ a ∷ b ∷ c ∷ d ∷ []
long_made a b c d p q r s =
    let n = four_bytes a b c d in
    let x : n % 256 ≡ a = omega arith in
    let u : n / 256 ≡ two_bytes b (c + d * 256) = omega arith in
    let v : n / 65536 ≡ two_bytes c d = omega arith in
    let y : n / 256 % 256 ≡ b = ap (λ m. m % 256) u ∙ low b (c + d * 256) q in
    let z : n / 65536 % 256 ≡ c = ap (λ m. m % 256) v ∙ low c d r in
    let w : n / 16777216 ≡ d = omega arith in
    rw (x, y, z, w)

-- the bytes begin with those of any command that they are read as
pub record Shown {C : Type 0} (Spelt : C → List ℕ → Type 0) (bs : List ℕ) (o : Option C) : Type 0 where
  pub shows : (c : C) → o ≡ Some c → (xs : List ℕ) × (rest : List ℕ) × Spelt c xs × (bs ≡ xs ++ rest)

module _ {C : Type 0} (Spelt : C → List ℕ → Type 0) where
  unread : (bs : List ℕ) → Shown Spelt bs None
  unread bs = record { shows = λ c e. absurd (let z : ◌≡◌ {A = ℕ} 0 1 = cc in omega arith) }

  read : (xs rest : List ℕ) (c : C) → Spelt c xs → Shown Spelt (xs ++ rest) (Some c)
  read xs rest c s = record { shows = λ d e. let p : c ≡ d = cc in (xs, rest, subst (λ x. Spelt x xs) p s, refl) }

  chosen : {byte n : ℕ} {rest : List ℕ} {x y : Option C} → Shown Spelt (n ∷ rest) x → Shown Spelt (byte ∷ rest) y → Shown Spelt (byte ∷ rest) (cond (eqb byte n) x y)
  chosen {byte} {n} {rest} {x} {y} s t =
      elim (eqb byte n) as (λ b. eqb byte n ≡ b → Shown Spelt (byte ∷ rest) (cond b x y)) [
        | true ↦ λ e. subst (λ k. Shown Spelt (k ∷ rest) x) (sym (eqb-true byte n e)) s
        | false ↦ λ e. t
      ] refl

  module _ (n : ℕ) where
    one_shown : (k : ℕ → C) → ((a : ℕ) → Spelt (k a) (n ∷ a ∷ [])) → (bs : List ℕ) → Shown Spelt (n ∷ bs) (one k bs)
    one_shown k w [] = unread (n ∷ [])
    one_shown k w (a ∷ bs) = read (n ∷ a ∷ []) bs (k a) (w a)

    two_shown : (k : ℕ → ℕ → C) → ((a b : ℕ) → a < 256 → b < 256 → Spelt (k a b) (n ∷ a ∷ b ∷ [])) → (bs : List ℕ) → Bytes bs → Shown Spelt (n ∷ bs) (two k bs)
    two_shown k w [] h = unread (n ∷ [])
    two_shown k w (a ∷ []) h = unread (n ∷ a ∷ [])
    two_shown k w (a ∷ b ∷ bs) h = read (n ∷ a ∷ b ∷ []) bs (k a b) (w a b h.0 h.1.0)

    place_shown : (k : ℕ → C) → ((p : ℕ) → Spelt (k p) (n ∷ word p)) → (bs : List ℕ) → Bytes bs → Shown Spelt (n ∷ bs) (place k bs)
    place_shown k w bs h = two_shown (λ a b. k (two_bytes a b)) (λ a b p q. subst (λ l. Spelt (k (two_bytes a b)) (n ∷ l)) (word_made a b p q) (w (two_bytes a b))) bs h

    three_shown : (k : ℕ → ℕ → ℕ → C) → ((a b c : ℕ) → Spelt (k a b c) (n ∷ a ∷ b ∷ c ∷ [])) → (bs : List ℕ) → Shown Spelt (n ∷ bs) (three k bs)
    three_shown k w [] = unread (n ∷ [])
    three_shown k w (a ∷ []) = unread (n ∷ a ∷ [])
    three_shown k w (a ∷ b ∷ []) = unread (n ∷ a ∷ b ∷ [])
    three_shown k w (a ∷ b ∷ c ∷ bs) = read (n ∷ a ∷ b ∷ c ∷ []) bs (k a b c) (w a b c)

    four_shown : (k : ℕ → ℕ → ℕ → ℕ → C) → ((a b c d : ℕ) → a < 256 → b < 256 → c < 256 → d < 256 → Spelt (k a b c d) (n ∷ a ∷ b ∷ c ∷ d ∷ [])) → (bs : List ℕ) → Bytes bs → Shown Spelt (n ∷ bs) (four k bs)
    four_shown k w [] h = unread (n ∷ [])
    four_shown k w (a ∷ []) h = unread (n ∷ a ∷ [])
    four_shown k w (a ∷ b ∷ []) h = unread (n ∷ a ∷ b ∷ [])
    four_shown k w (a ∷ b ∷ c ∷ []) h = unread (n ∷ a ∷ b ∷ c ∷ [])
    four_shown k w (a ∷ b ∷ c ∷ d ∷ bs) h = read (n ∷ a ∷ b ∷ c ∷ d ∷ []) bs (k a b c d) (w a b c d h.0 h.1.0 h.1.1.0 h.1.1.1.0)

abbrev BehaviourSpelt : BehaviourCommand → List ℕ → Type 0
BehaviourSpelt c xs = behaviour_written c ≡ xs

behaviour_shown : (bs : List ℕ) → Bytes bs → Shown BehaviourSpelt bs (behaviour_command bs)
behaviour_shown [] h = unread BehaviourSpelt []
behaviour_shown (b ∷ bs) h =
    let w = BehaviourSpelt in
    chosen w (one_shown w 0x40 Proc (λ a. refl) bs)
    (chosen w (place_shown w 0x41 Par (λ p. refl) bs h.1)
    (chosen w (four_shown w 0x42 (λ a b c d. Hide (four_bytes a b c d)) (λ a b c d p q r s. ap (λ l. 0x42 ∷ l) (long_made a b c d p q r s)) bs h.1)
    (chosen w (two_shown w 0x43 Rename (λ a b p q. refl) bs h.1) (unread w (b ∷ bs)))))

abbrev ExpressionSpelt : ExpressionCommand → List ℕ → Type 0
ExpressionSpelt c xs = ExpressionFits c × (expression_written c ≡ xs)

signed_ranged : (n : ℕ) → n < 2 ^ 32 → in_range (to_z w32 n) ≡ true
signed_ranged n h = (range_tells (to_z w32 n)).1 (sfits_to_z {w = w32} {n = n} (record { fits = h }))

int_shown : (a b c d : ℕ) → a < 256 → b < 256 → c < 256 → d < 256 → ExpressionSpelt (LeafC (Int (to_z w32 (four_bytes a b c d)))) (0x01 ∷ a ∷ b ∷ c ∷ d ∷ [])
int_shown a b c d p q r s =
    let n = four_bytes a b c d in
    let fits : n < 2 ^ 32 = omega arith in
    (signed_ranged n fits, ap (λ m. 0x01 ∷ long m) (of_z-to_z w32 n fits) ∙ ap (λ l. 0x01 ∷ l) (long_made a b c d p q r s))

expression_shown : (bs : List ℕ) → Bytes bs → Shown ExpressionSpelt bs (expression_command bs)
expression_shown [] h = unread ExpressionSpelt []
expression_shown (b ∷ bs) h =
    let w = ExpressionSpelt in
    let op : (o : Op) → Shown w (op_byte o ∷ bs) (place (Binary o) bs) = λ o. place_shown w (op_byte o) (Binary o) (λ p. (tt, refl)) bs h.1 in
    chosen w (four_shown w 0x01 (λ a b c d. LeafC (Int (to_z w32 (four_bytes a b c d)))) int_shown bs h.1)
    (chosen w (one_shown w 0x02 (λ a. LeafC (BoolL a)) (λ a. (tt, refl)) bs)
    (chosen w (read w (0x03 ∷ []) bs (LeafC Iunk) (tt, refl))
    (chosen w (one_shown w 0x04 (λ a. LeafC (Var a)) (λ a. (tt, refl)) bs)
    (chosen w (op Add) (chosen w (op Sub) (chosen w (op Mul) (chosen w (op Div)
    (chosen w (op Less) (chosen w (op Same) (chosen w (op And) (chosen w (op Or)
    (chosen w (read w (0x0d ∷ []) bs Not (tt, refl)) (unread w (b ∷ bs))))))))))))))

abbrev StatementSpelt : StatementCommand → List ℕ → Type 0
StatementSpelt c xs = StatementFits c × (statement_written c ≡ xs)

receive_shown : (bs : List ℕ) → Shown StatementSpelt (0x23 ∷ bs) (seven bs)
receive_shown [] = unread StatementSpelt _
receive_shown (c ∷ []) = unread StatementSpelt _
receive_shown (c ∷ m ∷ []) = unread StatementSpelt _
receive_shown (c ∷ m ∷ n ∷ []) = unread StatementSpelt _
receive_shown (c ∷ m ∷ n ∷ v ∷ []) = unread StatementSpelt _
receive_shown (c ∷ m ∷ n ∷ v ∷ w ∷ []) = unread StatementSpelt _
receive_shown (c ∷ m ∷ n ∷ v ∷ w ∷ x ∷ []) = unread StatementSpelt _
receive_shown (c ∷ m ∷ n ∷ v ∷ w ∷ x ∷ y ∷ bs) = read StatementSpelt (0x23 ∷ c ∷ m ∷ n ∷ v ∷ w ∷ x ∷ y ∷ []) bs (Recv c m n (v ∷ w ∷ x ∷ y ∷ [])) (refl, refl)

branch_made : (a b c d : ℕ) → a < 256 → b < 256 → c < 256 → d < 256 → statement_written (If (two_bytes a b) (two_bytes c d)) ≡ 0x27 ∷ a ∷ b ∷ c ∷ d ∷ []
branch_made a b c d p q r s = ap (λ l. 0x27 ∷ (l ++ word (two_bytes c d))) (word_made a b p q) ∙ ap (λ l. 0x27 ∷ a ∷ b ∷ l) (word_made c d r s)

statement_shown : (bs : List ℕ) → Bytes bs → Shown StatementSpelt bs (statement_command bs)
statement_shown [] h = unread StatementSpelt []
statement_shown (b ∷ bs) h =
    let w = StatementSpelt in
    chosen w (read w (0x20 ∷ []) bs Skip (tt, refl))
    (chosen w (one_shown w 0x21 Set (λ a. (tt, refl)) bs)
    (chosen w (three_shown w 0x22 Send (λ a b c. (tt, refl)) bs)
    (chosen w (receive_shown bs)
    (chosen w (place_shown w 0x24 Seq (λ p. (tt, refl)) bs h.1)
    (chosen w (place_shown w 0x25 Sel (λ p. (tt, refl)) bs h.1)
    (chosen w (place_shown w 0x26 Guard (λ p. (tt, refl)) bs h.1)
    (chosen w (four_shown w 0x27 (λ a b c d. If (two_bytes a b) (two_bytes c d)) (λ a b c d p q r s. (tt, branch_made a b c d p q r s)) bs h.1)
    (chosen w (place_shown w 0x28 Do (λ p. (tt, refl)) bs h.1) (unread w (b ∷ bs))))))))))

pub bytes_drop : (f : List ℕ) (at : ℕ) → Bytes f → Bytes (drop at f)
bytes_drop [] zero h = tt
bytes_drop [] (suc n) h = tt
bytes_drop (b ∷ f) zero h = h
bytes_drop (b ∷ f) (suc n) h = bytes_drop f n h.1

begins : (f : List ℕ) (at n : ℕ) (xs ys rest : List ℕ) → drop at f ≡ ys ++ rest → xs ≡ ys → length xs ≡ n → Has f at n xs
begins f at n xs ys rest e p h = has f at n xs rest (e ∙ ap (λ l. l ++ rest) (sym p)) h

-- the bytes at a place of the file, by their command
module _ (f : List ℕ) (at : ℕ) (h : Bytes f) where
  pub expression_has : (c : ExpressionCommand) → expression_command (drop at f) ≡ Some c → ExpressionFits c × Has f at (expression_command_size c) (expression_written c)
  expression_has c e =
      let s = (expression_shown (drop at f) (bytes_drop f at h)).shows c e in
      (s.2.0, begins f at (expression_command_size c) (expression_written c) s.0 s.1 s.3 s.2.1 (expression_long c))

  pub statement_has : (c : StatementCommand) → statement_command (drop at f) ≡ Some c → StatementFits c × Has f at (statement_command_size c) (statement_written c)
  statement_has c e =
      let s = (statement_shown (drop at f) (bytes_drop f at h)).shows c e in
      (s.2.0, begins f at (statement_command_size c) (statement_written c) s.0 s.1 s.3 s.2.1 (statement_long c s.2.0))

  pub behaviour_has : (c : BehaviourCommand) → behaviour_command (drop at f) ≡ Some c → Has f at (behaviour_command_size c) (behaviour_written c)
  behaviour_has c e =
      let s = (behaviour_shown (drop at f) (bytes_drop f at h)).shows c e in
      begins f at (behaviour_command_size c) (behaviour_written c) s.0 s.1 s.3 s.2 (behaviour_long c)
