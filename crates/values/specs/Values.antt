-- Values, and what the operations make of them.
use Rattle.std.specs.Prelude.{Bool, true, false, cond, not, ◌&&◌, ℤ, pos, negsuc, ◌+ℤ◌, ◌-ℤ◌, ◌*ℤ◌, Some, None, Option, ◌==◌, int_div, int_le, int_lt}
use Rattle.values.specs.declared.kind.Kind.{Kind}
use Rattle.values.specs.declared.kind.Kind.TheVariants.{Integer as IntegerK, Boolean as BooleanK}
use Rattle.values.specs.declared.value.Integer.{Integer}
use Rattle.values.specs.declared.value.Boolean.{Boolean}
use Rattle.values.specs.declared.value.Value.{Value}
use Rattle.values.specs.declared.value.Value.TheVariants.{Integer as IntegerV, Boolean as BooleanV}

-- an Integer or a Boolean; None is unknown
pub data Val : Type 0 where
  integer : Option ℤ → Val
  boolean : Option Bool → Val

-- what the values of the code stand for
abbrev pub number_of : Integer → Option ℤ
number_of i = cond i.known (Some i.number) None

abbrev pub truth_of : Boolean → Option Bool
truth_of b = cond b.known (Some b.truth) None

abbrev pub meaning : Value → Val
meaning (IntegerV i) = integer (number_of i)
meaning (BooleanV b) = boolean (truth_of b)

abbrev pub kind_of : Val → Kind
kind_of (integer n) = IntegerK
kind_of (boolean b) = BooleanK

-- the unknown value of a kind
abbrev pub unknown_of : Kind → Val
unknown_of IntegerK = integer None
unknown_of BooleanK = boolean None

-- a number from −2147483648 to 2147483647, else unknown
abbrev pub in_range : ℤ → Bool
in_range z = int_le (negsuc 2147483647) z && int_le z (pos 2147483647)

abbrev pub ranged : ℤ → Option ℤ
ranged z = cond (in_range z) (Some z) None

-- an operation on two known parts; unknown when a part is
abbrev pub both : {A B : Type 0} → (A → A → Option B) → Option A → Option A → Option B
both f None y = None
both f (Some a) None = None
both f (Some a) (Some b) = f a b

abbrev pub is_zero : ℤ → Bool
is_zero (pos n) = n == 0
is_zero (negsuc n) = false

abbrev pub add : Option ℤ → Option ℤ → Option ℤ
add = both (λ a b. ranged (a +ℤ b))

abbrev pub sub : Option ℤ → Option ℤ → Option ℤ
sub = both (λ a b. ranged (a -ℤ b))

abbrev pub mul : Option ℤ → Option ℤ → Option ℤ
mul = both (λ a b. ranged (a *ℤ b))

-- the fraction is dropped, toward zero
abbrev pub div : Option ℤ → Option ℤ → Option ℤ
div = both (λ a b. cond (is_zero b) None (ranged (int_div a b)))

abbrev pub less : Option ℤ → Option ℤ → Option Bool
less = both (λ a b. Some (int_lt a b))

abbrev pub same_numbers : ℤ → ℤ → Bool
same_numbers a b = int_le a b && int_le b a

abbrev pub same_truths : Bool → Bool → Bool
same_truths true b = b
same_truths false b = not b

-- false when a part is false, else unknown when a part is
abbrev pub and : Option Bool → Option Bool → Option Bool
and (Some false) y = Some false
and (Some true) y = y
and None (Some false) = Some false
and None (Some true) = None
and None None = None

-- true when a part is true, else unknown when a part is
abbrev pub or : Option Bool → Option Bool → Option Bool
or (Some true) y = Some true
or (Some false) y = y
or None (Some true) = Some true
or None (Some false) = None
or None None = None

abbrev pub negate : Option Bool → Option Bool
negate None = None
negate (Some b) = Some (not b)

-- two of one kind; unknown otherwise
abbrev pub same : Val → Val → Option Bool
same (integer x) (integer y) = both (λ a b. Some (same_numbers a b)) x y
same (integer x) (boolean y) = None
same (boolean x) (integer y) = None
same (boolean x) (boolean y) = both (λ a b. Some (same_truths a b)) x y

-- what a value is to an operation on Integers, or on Booleans: of the other kind, unknown
abbrev pub as_number : Val → Option ℤ
as_number (integer n) = n
as_number (boolean b) = None

abbrev pub as_truth : Val → Option Bool
as_truth (integer n) = None
as_truth (boolean b) = b
