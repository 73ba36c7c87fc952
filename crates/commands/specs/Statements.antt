-- The command of a statement as its bytes have it.
use Rattle.std.specs.Prelude.{ℕ, cond, List, [], ◌∷◌, Some, None, Option, ◌==◌}
use Rattle.commands.specs.declared.statement.StatementCommand.{StatementCommand}
use Rattle.commands.specs.declared.statement.StatementCommand.TheVariants.{Skip, Set, Send, Recv, Seq, Sel, Guard, If, Do}
use Rattle.commands.specs.Numbers.{two_bytes, one, three, four, place}

-- a RECV's channel, message, count and four variables
abbrev pub seven : List ℕ → Option StatementCommand
seven [] = None
seven (c ∷ []) = None
seven (c ∷ m ∷ []) = None
seven (c ∷ m ∷ n ∷ rest) = four (λ v w x y. Recv c m n (v ∷ w ∷ x ∷ y ∷ [])) rest

-- the command that the bytes begin with; none where it is unknown or cut short
abbrev pub statement_command : List ℕ → Option StatementCommand
statement_command [] = None
statement_command (byte ∷ rest) =
    cond (byte == 0x20) (Some Skip)
    (cond (byte == 0x21) (one Set rest)
    (cond (byte == 0x22) (three Send rest)
    (cond (byte == 0x23) (seven rest)
    (cond (byte == 0x24) (place Seq rest)
    (cond (byte == 0x25) (place Sel rest)
    (cond (byte == 0x26) (place Guard rest)
    (cond (byte == 0x27) (four (λ a b c d. If (two_bytes a b) (two_bytes c d)) rest)
    (cond (byte == 0x28) (place Do rest) None))))))))

-- the bytes that a command takes with its operands
abbrev pub command_size : StatementCommand → ℕ
command_size Skip = 1
command_size (Set v) = 2
command_size (Send c m n) = 4
command_size (Recv c m n vs) = 8
command_size (Seq p) = 3
command_size (Sel p) = 3
command_size (Guard p) = 3
command_size (If p q) = 5
command_size (Do p) = 3
