-- Laws of values that do not follow the program's steps, and worked samples.
use Rattle.std.specs.Prelude.{◌≡◌, ◌+◌, ◌*◌, ◌<◌, ◌≤◌, Bool, true, false, not, ◌&&◌, ◌||◌, ◌⊎◌, ℤ, pos, negsuc, Some, None, Ok, Option, int_lt, unsigned_abs}
use Rattle.values.specs.declared.op.Op.{Op}
use Rattle.values.specs.Ops.{op_name, op_of_name}
use Rattle.values.specs.Texts.{read_value, text_of}
use Rattle.values.specs.Values.{Val, integer, boolean, in_range, add, div, and, or, negate, same_truths}

-- b is one of the truths that x may stand for
abbrev pub MayBe : Option Bool → Bool → Type 0
MayBe None b = Unit {0}
MayBe (Some a) b = a ≡ b

-- r is the result for all truths that the parts may stand for
abbrev pub Always : (Bool → Bool → Bool) → Option Bool → Option Bool → Bool → Type 0
Always f x y r = (a b : Bool) → MayBe x a → MayBe y b → f a b ≡ r

-- an operation on truths answers r exactly when r is the result whatever the unknown parts are
pub record ThreeValued (f : Bool → Bool → Bool) (op : Option Bool → Option Bool → Option Bool) : Type 0 where
  pub sound : (x y : Option Bool) (r : Bool) → op x y ≡ Some r → Always f x y r
  pub complete : (x y : Option Bool) (r : Bool) → Always f x y r → op x y ≡ Some r

-- q is the quotient a / b without its fraction, which is dropped toward zero
pub record TowardZero (a b q : ℤ) : Type 0 where
  pub low : unsigned_abs q * unsigned_abs b ≤ unsigned_abs a
  pub high : unsigned_abs a < (unsigned_abs q + 1) * unsigned_abs b
  pub sign : (q ≡ pos 0) ⊎ (int_lt q (pos 0) ≡ not (same_truths (int_lt a (pos 0)) (int_lt b (pos 0))))

-- a value whose number, if it has one, lies in the range
abbrev pub Ranged : Val → Type 0
Ranged (integer None) = Unit {0}
Ranged (integer (Some z)) = in_range z ≡ true
Ranged (boolean b) = Unit {0}

pub record Laws : Type 0 where
  pub and_law : ThreeValued ◌&&◌ and
  pub or_law : ThreeValued ◌||◌ or
  pub negate_law : (x : Option Bool) (r : Bool) → negate x ≡ Some r → (a : Bool) → MayBe x a → not a ≡ r
  pub div_law : (a b q : ℤ) → div (Some a) (Some b) ≡ Some q → TowardZero a b q
  -- an operation's name names it
  pub op_named : (op : Op) → op_of_name (op_name op) ≡ Some op
  -- what is written of a value is read as that value
  pub read_back : (v : Val) → Ranged v → read_value (text_of v) ≡ Ok v

pub record Samples : Type 0 where
  pub too_large : add (Some (pos 2147483647)) (Some (pos 1)) ≡ None
  pub dropped : div (Some (negsuc 6)) (Some (pos 2)) ≡ Some (negsuc 2)
  pub too_large_quotient : div (Some (negsuc 2147483647)) (Some (negsuc 0)) ≡ None
  pub unknown_and_false : and None (Some false) ≡ Some false
