-- The value of an expression over a process's variables.
use Rattle.std.specs.Prelude.{ℕ, zero, suc, Bool, true, false, List, map, Some, None, Option, slice_index_or}
use Rattle.values.specs.declared.row.Row.{Row}
use Rattle.values.specs.Ops.{apply}
use Rattle.values.specs.Rows.{value_of_row}
use Rattle.values.specs.Values.{Val, integer, boolean, negate, as_truth}
use Rattle.commands.specs.declared.expression.Leaf.{Leaf}
use Rattle.commands.specs.declared.expression.Leaf.TheVariants.{Int, Bool as BoolL, Iunk, Var}
use Rattle.commands.specs.Trees.{Expr, leaf, binary, negation}

-- BOOL's operand: 0 false, 1 true, 2 unknown
abbrev pub truth_of_byte : ℕ → Option Bool
truth_of_byte zero = Some false
truth_of_byte (suc zero) = Some true
truth_of_byte (suc (suc n)) = None

abbrev pub leaf_value : List Val → Leaf → Val
leaf_value vs (Int z) = integer (Some z)
leaf_value vs (BoolL b) = boolean (truth_of_byte b)
leaf_value vs Iunk = integer None
leaf_value vs (Var v) = slice_index_or vs v (integer None)

abbrev pub eval : Expr → List Val → Val
eval (leaf l) vs = leaf_value vs l
eval (binary op a b) vs = apply op (eval a vs) (eval b vs)
eval (negation a) vs = boolean (negate (as_truth (eval a vs)))

-- the variables lie in rows
abbrev pub values_of : List Row → List Val
values_of rows = map value_of_row rows
