-- The operations with two parts: which kinds they take, and what they give.
use Rattle.std.specs.Prelude.{ℕ, cond, List, Some, None, codes, Option}
use Rattle.std.specs.Str.{bytes_eq}
use Rattle.values.specs.declared.kind.Kind.{Kind}
use Rattle.values.specs.declared.kind.Kind.TheVariants.{Integer, Boolean}
use Rattle.values.specs.declared.op.Op.{Op}
use Rattle.values.specs.declared.op.Op.TheVariants.{Add, Sub, Mul, Div, Less, Same, And, Or}
use Rattle.values.specs.Values.{Val, integer, boolean, as_number, as_truth, add, sub, mul, div, less, same, and, or}

-- the kind of both parts; None where either will do, if the two are of one kind
abbrev pub part_kind : Op → Option Kind
part_kind Add = Some Integer
part_kind Sub = Some Integer
part_kind Mul = Some Integer
part_kind Div = Some Integer
part_kind Less = Some Integer
part_kind Same = None
part_kind And = Some Boolean
part_kind Or = Some Boolean

abbrev pub gives : Op → Kind
gives Add = Integer
gives Sub = Integer
gives Mul = Integer
gives Div = Integer
gives Less = Boolean
gives Same = Boolean
gives And = Boolean
gives Or = Boolean

abbrev pub apply : Op → Val → Val → Val
apply Add a b = integer (add (as_number a) (as_number b))
apply Sub a b = integer (sub (as_number a) (as_number b))
apply Mul a b = integer (mul (as_number a) (as_number b))
apply Div a b = integer (div (as_number a) (as_number b))
apply Less a b = boolean (less (as_number a) (as_number b))
apply Same a b = boolean (same a b)
apply And a b = boolean (and (as_truth a) (as_truth b))
apply Or a b = boolean (or (as_truth a) (as_truth b))

abbrev pub op_name : Op → List ℕ
op_name Add = codes "ADD"
op_name Sub = codes "SUB"
op_name Mul = codes "MUL"
op_name Div = codes "DIV"
op_name Less = codes "LESS"
op_name Same = codes "SAME"
op_name And = codes "AND"
op_name Or = codes "OR"

abbrev pub named : Op → List ℕ → Option Op → Option Op
named op text other = cond (bytes_eq text (op_name op)) (Some op) other

-- the operation that a text names, if any
abbrev pub op_of_name : List ℕ → Option Op
op_of_name t = named Add t (named Sub t (named Mul t (named Div t (named Less t (named Same t (named And t (named Or t None)))))))
