-- The check of an expression at a place of the file: the first fault, or the place behind it and its kind.
use Rattle.std.specs.Prelude.{ℕ, zero, suc, ◌+◌, cond, List, drop, Some, None, Ok, Err, Option, ◌==◌, nat_lt}
use Rattle.std.specs.List.{slice_get}
use Rattle.values.specs.declared.kind.Kind.{Kind}
use Rattle.values.specs.declared.kind.Kind.TheVariants.{Integer, Boolean}
use Rattle.values.specs.declared.op.Op.{Op}
use Rattle.values.specs.Kinds.{awaited, same_kind}
use Rattle.values.specs.Ops.{part_kind, gives}
use Rattle.commands.specs.declared.expression.ExpressionCommand.{ExpressionCommand}
use Rattle.commands.specs.declared.expression.ExpressionCommand.TheVariants.{Leaf as LeafC, Binary, Not}
use Rattle.commands.specs.declared.expression.Leaf.{Leaf}
use Rattle.commands.specs.declared.expression.Leaf.TheVariants.{Int, Bool as BoolL, Iunk, Var}
use Rattle.commands.specs.Expressions.{expression_command, leaf_size}
use Rattle.answers.specs.declared.fault.FaultKind.TheVariants.{Command, Depth, Operand, PartKind}
use Rattle.answers.specs.declared.fault.Layer.TheVariants.{Expression}
use Rattle.heads.specs.Checked.{Checked, fault, ask, known, ◌>>=◌, ◌>>◌}

-- the place behind an expression, and its kind
abbrev pub End : Type 0
End = ℕ × Kind

-- the kind of an expression without parts; none where its operand is out of bounds or its variable absent
abbrev pub leaf_kind : List Kind → Leaf → Option Kind
leaf_kind ks (Int z) = Some Integer
leaf_kind ks (BoolL b) = cond (nat_lt b 3) (Some Boolean) None
leaf_kind ks Iunk = Some Integer
leaf_kind ks (Var v) = slice_get ks v

abbrev pub check_leaf : List Kind → ℕ → Leaf → Checked End
check_leaf ks at l = known (leaf_kind ks l) Operand at Expression >>= (λ k. Ok (at + leaf_size l, k))

-- the first part of an operation at a place, and then both
abbrev pub first_fits : Op → ℕ → ℕ → End → Checked (Unit {0})
first_fits op place at first = do
  ask (awaited (part_kind op) first.1) PartKind (at + 3) Expression
  ask (first.0 == place) Command at Expression

abbrev pub both_fit : Op → End → End → Checked End
both_fit op first second = do
  ask (same_kind first.1 second.1) PartKind first.0 Expression
  Ok (second.0, gives op)

abbrev pub one_fits : ℕ → End → Checked End
one_fits at part = do
  ask (same_kind Boolean part.1) PartKind (at + 1) Expression
  Ok (part.0, Boolean)

-- a command's operands and parts, with what the check answers of a part at each place
abbrev pub expression_parts : (ℕ → Checked End) → List Kind → ℕ → ExpressionCommand → Checked End
expression_parts part ks at (LeafC l) = check_leaf ks at l
expression_parts part ks at (Binary op place) = do
  first ← part (at + 3)
  first_fits op place at first
  second ← part first.0
  both_fit op first second
expression_parts part ks at Not = do
  only ← part (at + 1)
  one_fits at only

-- the expression at a place, at most that many levels deep, over variables of these kinds
unfoldable pub check_expression : ℕ → List ℕ → ℕ → List Kind → Checked End
check_expression zero f at ks = known (expression_command (drop at f)) Command at Expression >>= (λ c. Err (fault Depth at Expression))
check_expression (suc d) f at ks = known (expression_command (drop at f)) Command at Expression >>= expression_parts (λ p. check_expression d f p ks) ks at
