-- Numbers that were read from bytes lie in their ranges.
use Rattle.std.proofs.Common.{◌≡◌, ℕ, zero, suc, ◌^◌, ◌<◌, Bool, true, false, cond, eqb, List, [], ◌∷◌, length, drop, ℤ, Some, None, Option, refl, subst, arith, w32, to_z}
use Rattle.std.proofs.lemmas.Int.{ints}
use Rattle.values.specs.Values.{in_range}
use Rattle.commands.specs.declared.expression.ExpressionCommand.{ExpressionCommand}
use Rattle.commands.specs.declared.expression.ExpressionCommand.TheVariants.{Leaf as LeafC, Binary, Not}
use Rattle.commands.specs.declared.expression.Leaf.TheVariants.{Int, Bool as BoolL, Iunk, Var}
use Rattle.commands.specs.declared.behaviour.BehaviourCommand.{BehaviourCommand}
use Rattle.commands.specs.declared.behaviour.BehaviourCommand.TheVariants.{Proc, Par, Hide, Rename}
use Rattle.commands.specs.declared.statement.StatementCommand.{StatementCommand}
use Rattle.commands.specs.declared.statement.StatementCommand.TheVariants.{Skip, Set, Send, Recv, Seq, Sel, Guard, If, Do}
use Rattle.commands.specs.Behaviours.{behaviour_command}
use Rattle.commands.specs.Expressions.{expression_command}
use Rattle.commands.specs.Statements.{statement_command, seven}
use Rattle.commands.specs.Numbers.{two_bytes, four_bytes, one, two, three, four}
use Rattle.commands.specs.ByteLists.{Bytes}

pub long_below : (a b c d : ℕ) → a < 256 → b < 256 → c < 256 → d < 256 → four_bytes a b c d < 4294967296
long_below a b c d p q r s = omega arith

pub integer_ranged : (n : ℕ) → n < 4294967296 → in_range (to_z w32 n) ≡ true
integer_ranged n h = grind (arith, ints)

pub drop_bytes : (f : List ℕ) (at : ℕ) → Bytes f → Bytes (drop at f)
drop_bytes [] zero h = tt
drop_bytes [] (suc at) h = tt
drop_bytes (b ∷ f) zero h = h
drop_bytes (b ∷ f) (suc at) h = drop_bytes f at h.1

-- what holds of both ways of a test, and of what operands are read
pub either_way : {A : Type 0} (P : A → Type 0) (b : Bool) (x y : A) → P x → P y → P (cond b x y)
either_way P true x y p q = p
either_way P false x y p q = q

module _ {A : Type 0} (P : Option A → Type 0) (none : P None) where
  pub by_one : (g : ℕ → A) (bs : List ℕ) → ((a : ℕ) → P (Some (g a))) → P (one g bs)
  by_one g [] h = none
  by_one g (a ∷ bs) h = h a

  pub by_two : (g : ℕ → ℕ → A) (bs : List ℕ) → ((a b : ℕ) → P (Some (g a b))) → P (two g bs)
  by_two g [] h = none
  by_two g (a ∷ []) h = none
  by_two g (a ∷ b ∷ bs) h = h a b

  pub by_three : (g : ℕ → ℕ → ℕ → A) (bs : List ℕ) → ((a b c : ℕ) → P (Some (g a b c))) → P (three g bs)
  by_three g [] h = none
  by_three g (a ∷ []) h = none
  by_three g (a ∷ b ∷ []) h = none
  by_three g (a ∷ b ∷ c ∷ bs) h = h a b c

  pub by_four : (g : ℕ → ℕ → ℕ → ℕ → A) (bs : List ℕ) → Bytes bs → ((a b c d : ℕ) → a < 256 → b < 256 → c < 256 → d < 256 → P (Some (g a b c d))) → P (four g bs)
  by_four g [] h k = none
  by_four g (a ∷ []) h k = none
  by_four g (a ∷ b ∷ []) h k = none
  by_four g (a ∷ b ∷ c ∷ []) h k = none
  by_four g (a ∷ b ∷ c ∷ d ∷ bs) h k = k a b c d h.0 h.1.0 h.1.1.0 h.1.1.1.0

-- the number of an INT lies in the range
abbrev IntKept : Option ExpressionCommand → Type 0
IntKept None = Unit {0}
IntKept (Some (LeafC (Int z))) = in_range z ≡ true
IntKept (Some (LeafC (BoolL b))) = Unit {0}
IntKept (Some (LeafC Iunk)) = Unit {0}
IntKept (Some (LeafC (Var v))) = Unit {0}
IntKept (Some (Binary op p)) = Unit {0}
IntKept (Some Not) = Unit {0}

int_kept : (bs : List ℕ) → Bytes bs → IntKept (expression_command bs)
int_kept [] h = tt
int_kept (b ∷ bs) h =
    either_way IntKept (eqb b 0x01) _ _ (by_four IntKept tt _ bs h.1 (λ a b c d p q r s. integer_ranged (four_bytes a b c d) (long_below a b c d p q r s)))
    (either_way IntKept (eqb b 0x02) _ _ (by_one IntKept tt _ bs (λ a. tt))
    (either_way IntKept (eqb b 0x03) _ _ tt
    (either_way IntKept (eqb b 0x04) _ _ (by_one IntKept tt _ bs (λ a. tt))
    (either_way IntKept (eqb b 0x05) _ _ (by_two IntKept tt _ bs (λ a b. tt))
    (either_way IntKept (eqb b 0x06) _ _ (by_two IntKept tt _ bs (λ a b. tt))
    (either_way IntKept (eqb b 0x07) _ _ (by_two IntKept tt _ bs (λ a b. tt))
    (either_way IntKept (eqb b 0x08) _ _ (by_two IntKept tt _ bs (λ a b. tt))
    (either_way IntKept (eqb b 0x09) _ _ (by_two IntKept tt _ bs (λ a b. tt))
    (either_way IntKept (eqb b 0x0a) _ _ (by_two IntKept tt _ bs (λ a b. tt))
    (either_way IntKept (eqb b 0x0b) _ _ (by_two IntKept tt _ bs (λ a b. tt))
    (either_way IntKept (eqb b 0x0c) _ _ (by_two IntKept tt _ bs (λ a b. tt))
    (either_way IntKept (eqb b 0x0d) _ _ tt tt))))))))))))

pub int_ranged : (f : List ℕ) (at : ℕ) (z : ℤ) → Bytes f → expression_command (drop at f) ≡ Some (LeafC (Int z)) → in_range z ≡ true
int_ranged f at z h e = subst IntKept e (int_kept (drop at f) (drop_bytes f at h))

-- a RECV has four variables
abbrev RecvFour : Option StatementCommand → Type 0
RecvFour None = Unit {0}
RecvFour (Some Skip) = Unit {0}
RecvFour (Some (Set v)) = Unit {0}
RecvFour (Some (Send c m n)) = Unit {0}
RecvFour (Some (Recv c m n vs)) = length vs ≡ 4
RecvFour (Some (Seq p)) = Unit {0}
RecvFour (Some (Sel p)) = Unit {0}
RecvFour (Some (Guard p)) = Unit {0}
RecvFour (Some (If p q)) = Unit {0}
RecvFour (Some (Do p)) = Unit {0}

by_seven : (bs : List ℕ) → RecvFour (seven bs)
by_seven [] = tt
by_seven (c ∷ []) = tt
by_seven (c ∷ m ∷ []) = tt
by_seven (c ∷ m ∷ n ∷ []) = tt
by_seven (c ∷ m ∷ n ∷ v ∷ []) = tt
by_seven (c ∷ m ∷ n ∷ v ∷ w ∷ []) = tt
by_seven (c ∷ m ∷ n ∷ v ∷ w ∷ x ∷ []) = tt
by_seven (c ∷ m ∷ n ∷ v ∷ w ∷ x ∷ y ∷ bs) = refl

if_four : (bs : List ℕ) → RecvFour (four (λ a b c d. If (two_bytes a b) (two_bytes c d)) bs)
if_four [] = tt
if_four (a ∷ []) = tt
if_four (a ∷ b ∷ []) = tt
if_four (a ∷ b ∷ c ∷ []) = tt
if_four (a ∷ b ∷ c ∷ d ∷ bs) = tt

recv_four : (bs : List ℕ) → RecvFour (statement_command bs)
recv_four [] = tt
recv_four (b ∷ bs) =
    either_way RecvFour (eqb b 0x20) _ _ tt
    (either_way RecvFour (eqb b 0x21) _ _ (by_one RecvFour tt Set bs (λ a. tt))
    (either_way RecvFour (eqb b 0x22) _ _ (by_three RecvFour tt Send bs (λ a b c. tt))
    (either_way RecvFour (eqb b 0x23) _ _ (by_seven bs)
    (either_way RecvFour (eqb b 0x24) _ _ (by_two RecvFour tt _ bs (λ a b. tt))
    (either_way RecvFour (eqb b 0x25) _ _ (by_two RecvFour tt _ bs (λ a b. tt))
    (either_way RecvFour (eqb b 0x26) _ _ (by_two RecvFour tt _ bs (λ a b. tt))
    (either_way RecvFour (eqb b 0x27) _ _ (if_four bs)
    (either_way RecvFour (eqb b 0x28) _ _ (by_two RecvFour tt _ bs (λ a b. tt)) tt))))))))

pub four_variables : (bs : List ℕ) (c m n : ℕ) (vs : List ℕ) → statement_command bs ≡ Some (Recv c m n vs) → length vs ≡ 4
four_variables bs c m n vs e = subst RecvFour e (recv_four bs)

-- the set of a HIDE lies below 2 ^ 32
abbrev HideBelow : Option BehaviourCommand → Type 0
HideBelow None = Unit {0}
HideBelow (Some (Proc c)) = Unit {0}
HideBelow (Some (Par p)) = Unit {0}
HideBelow (Some (Hide s)) = s < 2 ^ 32
HideBelow (Some (Rename a b)) = Unit {0}

hide_below : (bs : List ℕ) → Bytes bs → HideBelow (behaviour_command bs)
hide_below [] h = tt
hide_below (b ∷ bs) h =
    either_way HideBelow (eqb b 0x40) _ _ (by_one HideBelow tt Proc bs (λ a. tt))
    (either_way HideBelow (eqb b 0x41) _ _ (by_two HideBelow tt _ bs (λ a b. tt))
    (either_way HideBelow (eqb b 0x42) _ _ (by_four HideBelow tt _ bs h.1 (λ a b c d p q r s. long_below a b c d p q r s))
    (either_way HideBelow (eqb b 0x43) _ _ (by_two HideBelow tt Rename bs (λ a b. tt)) tt)))

pub set_below : (f : List ℕ) (at s : ℕ) → Bytes f → behaviour_command (drop at f) ≡ Some (Hide s) → s < 2 ^ 32
set_below f at s h e = subst HideBelow e (hide_below (drop at f) (drop_bytes f at h))
