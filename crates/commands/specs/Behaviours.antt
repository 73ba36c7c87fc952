-- The command of a behaviour as its bytes have it.
use Rattle.std.specs.Prelude.{ℕ, cond, List, [], ◌∷◌, None, Option, ◌==◌}
use Rattle.commands.specs.declared.behaviour.BehaviourCommand.{BehaviourCommand}
use Rattle.commands.specs.declared.behaviour.BehaviourCommand.TheVariants.{Proc, Par, Hide, Rename}
use Rattle.commands.specs.Numbers.{four_bytes, one, two, four, place}

-- the command that the bytes begin with; none where it is unknown or cut short
abbrev pub behaviour_command : List ℕ → Option BehaviourCommand
behaviour_command [] = None
behaviour_command (byte ∷ rest) =
    cond (byte == 0x40) (one Proc rest)
    (cond (byte == 0x41) (place Par rest)
    (cond (byte == 0x42) (four (λ a b c d. Hide (four_bytes a b c d)) rest)
    (cond (byte == 0x43) (two Rename rest) None)))

-- the bytes that a command takes with its operands
abbrev pub command_size : BehaviourCommand → ℕ
command_size (Proc c) = 2
command_size (Par p) = 3
command_size (Hide s) = 5
command_size (Rename a b) = 3
