-- A command and its bytes.
use Rattle.std.proofs.Common.{◌≡◌, ℕ, ◌+◌, ◌/◌, ◌%◌, List, [], ◌∷◌, ◌++◌, length, drop, Some, sym, refl, ap, ◌∙◌, append_assoc, arith, drop-drop, w32, to_z, of_z}
use Rattle.std.proofs.lemmas.List.{drop_at}
use Rattle.std.proofs.lemmas.Int.{to_z-of_z}
use Rattle.values.specs.declared.op.Op.{Op}
use Rattle.values.specs.declared.op.Op.TheVariants.{Add, Sub, Mul, Div, Less, Same, And, Or}
use Rattle.values.proofs.Texts.{range_tells}
use Rattle.commands.specs.declared.behaviour.BehaviourCommand.{BehaviourCommand}
use Rattle.commands.specs.declared.behaviour.BehaviourCommand.TheVariants.{Proc, Par, Hide, Rename}
use Rattle.commands.specs.declared.expression.ExpressionCommand.{ExpressionCommand}
use Rattle.commands.specs.declared.expression.ExpressionCommand.TheVariants.{Leaf as LeafC, Binary, Not}
use Rattle.commands.specs.declared.expression.Leaf.{Leaf}
use Rattle.commands.specs.declared.expression.Leaf.TheVariants.{Int, Bool as BoolL, Iunk, Var}
use Rattle.commands.specs.declared.statement.StatementCommand.{StatementCommand}
use Rattle.commands.specs.declared.statement.StatementCommand.TheVariants.{Skip, Set, Send, Recv, Seq, Sel, Guard, If, Do}
use Rattle.commands.specs.Behaviours.{behaviour_command, command_size as behaviour_command_size}
use Rattle.commands.specs.Bytes.{word, long, op_byte, leaf_bytes}
use Rattle.commands.specs.Expressions.{expression_command, leaf_size, command_size as expression_command_size}
use Rattle.commands.specs.Numbers.{two_bytes, four_bytes}
use Rattle.commands.specs.Ranges.{LeafInRange}
use Rattle.commands.specs.Statements.{statement_command, command_size as statement_command_size}

abbrev pub expression_written : ExpressionCommand → List ℕ
expression_written (LeafC l) = leaf_bytes l
expression_written (Binary op p) = op_byte op ∷ word p
expression_written Not = 0x0d ∷ []

abbrev pub statement_written : StatementCommand → List ℕ
statement_written Skip = 0x20 ∷ []
statement_written (Set v) = 0x21 ∷ v ∷ []
statement_written (Send c m n) = 0x22 ∷ c ∷ m ∷ n ∷ []
statement_written (Recv c m n vs) = 0x23 ∷ c ∷ m ∷ n ∷ vs
statement_written (Seq p) = 0x24 ∷ word p
statement_written (Sel p) = 0x25 ∷ word p
statement_written (Guard p) = 0x26 ∷ word p
statement_written (If p q) = 0x27 ∷ (word p ++ word q)
statement_written (Do p) = 0x28 ∷ word p

abbrev pub behaviour_written : BehaviourCommand → List ℕ
behaviour_written (Proc c) = 0x40 ∷ c ∷ []
behaviour_written (Par p) = 0x41 ∷ word p
behaviour_written (Hide s) = 0x42 ∷ long s
behaviour_written (Rename a b) = 0x43 ∷ a ∷ b ∷ []

word_read : (n : ℕ) → two_bytes (n % 256) (n / 256) ≡ n
word_read n = omega arith

long_read : (n : ℕ) → four_bytes (n % 256) (n / 256 % 256) (n / 65536 % 256) (n / 16777216) ≡ n
long_read n = omega arith

op_read : (op : Op) (a b : ℕ) (rest : List ℕ) → expression_command (op_byte op ∷ a ∷ b ∷ rest) ≡ Some (Binary op (two_bytes a b))
op_read Add a b rest = refl
op_read Sub a b rest = refl
op_read Mul a b rest = refl
op_read Div a b rest = refl
op_read Less a b rest = refl
op_read Same a b rest = refl
op_read And a b rest = refl
op_read Or a b rest = refl

pub leaf_read : (l : Leaf) (rest : List ℕ) → LeafInRange l → expression_command (leaf_bytes l ++ rest) ≡ Some (LeafC l)
leaf_read (Int z) rest h = ap (λ n. Some (LeafC (Int (to_z w32 n)))) (long_read (of_z w32 z)) ∙ ap (λ x. Some (LeafC (Int x))) (to_z-of_z w32 z ((range_tells z).0 h))
leaf_read (BoolL b) rest h = refl
leaf_read Iunk rest h = refl
leaf_read (Var v) rest h = refl

abbrev pub ExpressionFits : ExpressionCommand → Type 0
ExpressionFits (LeafC l) = LeafInRange l
ExpressionFits (Binary op p) = Unit {0}
ExpressionFits Not = Unit {0}

expression_reads : (c : ExpressionCommand) (rest : List ℕ) → ExpressionFits c → expression_command (expression_written c ++ rest) ≡ Some c
expression_reads (LeafC l) rest h = leaf_read l rest h
expression_reads (Binary op p) rest h = op_read op (p % 256) (p / 256) rest ∙ ap (λ n. Some (Binary op n)) (word_read p)
expression_reads Not rest h = refl

-- the four bytes of a RECV's variables
abbrev pub StatementFits : StatementCommand → Type 0
StatementFits Skip = Unit {0}
StatementFits (Set v) = Unit {0}
StatementFits (Send c m n) = Unit {0}
StatementFits (Recv c m n vs) = length vs ≡ 4
StatementFits (Seq p) = Unit {0}
StatementFits (Sel p) = Unit {0}
StatementFits (Guard p) = Unit {0}
StatementFits (If p q) = Unit {0}
StatementFits (Do p) = Unit {0}

receive_read : (c m n : ℕ) (vs rest : List ℕ) → length vs ≡ 4 → statement_command (0x23 ∷ c ∷ m ∷ n ∷ (vs ++ rest)) ≡ Some (Recv c m n vs)
receive_read c m n [] rest h = absurd (omega arith)
receive_read c m n (v ∷ []) rest h = absurd (omega arith)
receive_read c m n (v ∷ w ∷ []) rest h = absurd (omega arith)
receive_read c m n (v ∷ w ∷ x ∷ []) rest h = absurd (omega arith)
receive_read c m n (v ∷ w ∷ x ∷ y ∷ []) rest h = refl
receive_read c m n (v ∷ w ∷ x ∷ y ∷ z ∷ vs) rest h = absurd (omega arith)

statement_reads : (c : StatementCommand) (rest : List ℕ) → StatementFits c → statement_command (statement_written c ++ rest) ≡ Some c
statement_reads Skip rest h = refl
statement_reads (Set v) rest h = refl
statement_reads (Send c m n) rest h = refl
statement_reads (Recv c m n vs) rest h = receive_read c m n vs rest h
statement_reads (Seq p) rest h = ap (λ n. Some (Seq n)) (word_read p)
statement_reads (Sel p) rest h = ap (λ n. Some (Sel n)) (word_read p)
statement_reads (Guard p) rest h = ap (λ n. Some (Guard n)) (word_read p)
statement_reads (If p q) rest h = ap (λ n. Some (If n (two_bytes (q % 256) (q / 256)))) (word_read p) ∙ ap (λ n. Some (If p n)) (word_read q)
statement_reads (Do p) rest h = ap (λ n. Some (Do n)) (word_read p)

behaviour_reads : (c : BehaviourCommand) (rest : List ℕ) → behaviour_command (behaviour_written c ++ rest) ≡ Some c
behaviour_reads (Proc c) rest = refl
behaviour_reads (Par p) rest = ap (λ n. Some (Par n)) (word_read p)
behaviour_reads (Hide s) rest = ap (λ n. Some (Hide n)) (long_read s)
behaviour_reads (Rename a b) rest = refl

pub leaf_long : (l : Leaf) → length (leaf_bytes l) ≡ leaf_size l
leaf_long (Int z) = refl
leaf_long (BoolL b) = refl
leaf_long Iunk = refl
leaf_long (Var v) = refl

pub expression_long : (c : ExpressionCommand) → length (expression_written c) ≡ expression_command_size c
expression_long (LeafC l) = leaf_long l
expression_long (Binary op p) = refl
expression_long Not = refl

pub statement_long : (c : StatementCommand) → StatementFits c → length (statement_written c) ≡ statement_command_size c
statement_long Skip h = refl
statement_long (Set v) h = refl
statement_long (Send c m n) h = refl
statement_long (Recv c m n vs) h = omega arith
statement_long (Seq p) h = refl
statement_long (Sel p) h = refl
statement_long (Guard p) h = refl
statement_long (If p q) h = refl
statement_long (Do p) h = refl

pub behaviour_long : (c : BehaviourCommand) → length (behaviour_written c) ≡ behaviour_command_size c
behaviour_long (Proc c) = refl
behaviour_long (Par p) = refl
behaviour_long (Hide s) = refl
behaviour_long (Rename a b) = refl

-- at a place of the file are so many bytes, namely these
abbrev pub Has : List ℕ → ℕ → ℕ → List ℕ → Type 0
Has f at n xs = drop at f ≡ xs ++ drop (at + n) f

-- what follows them
pub behind : (f : List ℕ) (at n : ℕ) (xs rest : List ℕ) → drop at f ≡ xs ++ rest → length xs ≡ n → drop (at + n) f ≡ rest
behind f at n xs rest e h = sym (drop-drop n at f) ∙ ap (drop n) e ∙ drop_at xs rest n h

pub has : (f : List ℕ) (at n : ℕ) (xs rest : List ℕ) → drop at f ≡ xs ++ rest → length xs ≡ n → Has f at n xs
has f at n xs rest e h = e ∙ ap (λ l. xs ++ l) (sym (behind f at n xs rest e h))

-- bytes at a place and more behind them
module _ (f : List ℕ) (at n p m k : ℕ) (xs ys : List ℕ) (next : at + n ≡ p) (all : n + m ≡ k) where
  pub joined : Has f at n xs → Has f p m ys → Has f at k (xs ++ ys)
  joined h g =
      let long : p + m ≡ at + k = omega arith in
      h ∙ ap (λ q. xs ++ drop q f) next ∙ ap (λ l. xs ++ l) g ∙ sym (append_assoc xs ys (drop (p + m) f)) ∙ ap (λ q. (xs ++ ys) ++ drop q f) long

  pub apart : length xs ≡ n → Has f at k (xs ++ ys) → Has f at n xs × Has f p m ys
  apart h e =
      let long : at + k ≡ p + m = omega arith in
      let d : drop at f ≡ xs ++ (ys ++ drop (at + k) f) = e ∙ append_assoc xs ys (drop (at + k) f) in
      let g : drop p f ≡ ys ++ drop (at + k) f = ap (λ q. drop q f) (sym next) ∙ behind f at n xs (ys ++ drop (at + k) f) d h in
      (has f at n xs (ys ++ drop (at + k) f) d h, g ∙ ap (λ q. ys ++ drop q f) long)

-- the command that the bytes begin with
module _ {bs : List ℕ} where
  pub expression_read : (c : ExpressionCommand) (rest : List ℕ) → ExpressionFits c → bs ≡ expression_written c ++ rest → expression_command bs ≡ Some c
  expression_read c rest h e = ap expression_command e ∙ expression_reads c rest h

  pub statement_read : (c : StatementCommand) (rest : List ℕ) → StatementFits c → bs ≡ statement_written c ++ rest → statement_command bs ≡ Some c
  statement_read c rest h e = ap statement_command e ∙ statement_reads c rest h

  pub behaviour_read : (c : BehaviourCommand) (rest : List ℕ) → bs ≡ behaviour_written c ++ rest → behaviour_command bs ≡ Some c
  behaviour_read c rest e = ap behaviour_command e ∙ behaviour_reads c rest
