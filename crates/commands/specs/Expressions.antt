-- The command of an expression as its bytes have it.
use Rattle.std.specs.Prelude.{ℕ, cond, List, [], ◌∷◌, Some, None, Option, ◌==◌}
use Rattle.std.specs.Int.{w32}
use Rattle.std.proofs.Common.{to_z}
use Rattle.values.specs.declared.op.Op.TheVariants.{Add, Sub, Mul, Div, Less, Same, And, Or}
use Rattle.commands.specs.declared.expression.ExpressionCommand.{ExpressionCommand}
use Rattle.commands.specs.declared.expression.ExpressionCommand.TheVariants.{Leaf as LeafC, Binary, Not}
use Rattle.commands.specs.declared.expression.Leaf.{Leaf}
use Rattle.commands.specs.declared.expression.Leaf.TheVariants.{Int, Bool as BoolL, Iunk, Var}
use Rattle.commands.specs.Numbers.{four_bytes, one, four, place}

-- the command that the bytes begin with; none where it is unknown or cut short
abbrev pub expression_command : List ℕ → Option ExpressionCommand
expression_command [] = None
expression_command (byte ∷ rest) =
    cond (byte == 0x01) (four (λ a b c d. LeafC (Int (to_z w32 (four_bytes a b c d)))) rest)
    (cond (byte == 0x02) (one (λ b. LeafC (BoolL b)) rest)
    (cond (byte == 0x03) (Some (LeafC Iunk))
    (cond (byte == 0x04) (one (λ v. LeafC (Var v)) rest)
    (cond (byte == 0x05) (place (Binary Add) rest)
    (cond (byte == 0x06) (place (Binary Sub) rest)
    (cond (byte == 0x07) (place (Binary Mul) rest)
    (cond (byte == 0x08) (place (Binary Div) rest)
    (cond (byte == 0x09) (place (Binary Less) rest)
    (cond (byte == 0x0a) (place (Binary Same) rest)
    (cond (byte == 0x0b) (place (Binary And) rest)
    (cond (byte == 0x0c) (place (Binary Or) rest)
    (cond (byte == 0x0d) (Some Not) None))))))))))))

-- the bytes that a command takes with its operands
abbrev pub leaf_size : Leaf → ℕ
leaf_size (Int z) = 5
leaf_size (BoolL b) = 2
leaf_size Iunk = 1
leaf_size (Var v) = 2

abbrev pub command_size : ExpressionCommand → ℕ
command_size (LeafC l) = leaf_size l
command_size (Binary op p) = 3
command_size Not = 1
