-- Commands as text, as a reader of a file is shown them.
use Rattle.std.specs.Prelude.{ℕ, zero, suc, cond, List, [], ◌++◌, take, codes, decimal}
use Rattle.std.specs.List.{flat_map, range_with_len}
use Rattle.std.specs.Fmt.{signed_decimal}
use Rattle.values.specs.Ops.{op_name}
use Rattle.commands.specs.declared.behaviour.BehaviourCommand.{BehaviourCommand}
use Rattle.commands.specs.declared.behaviour.BehaviourCommand.TheVariants.{Proc, Par, Hide, Rename}
use Rattle.commands.specs.declared.expression.ExpressionCommand.{ExpressionCommand}
use Rattle.commands.specs.declared.expression.ExpressionCommand.TheVariants.{Leaf as LeafC, Binary, Not}
use Rattle.commands.specs.declared.expression.Leaf.{Leaf}
use Rattle.commands.specs.declared.expression.Leaf.TheVariants.{Int, Bool, Iunk, Var}
use Rattle.commands.specs.declared.statement.StatementCommand.{StatementCommand}
use Rattle.commands.specs.declared.statement.StatementCommand.TheVariants.{Skip, Set, Send, Recv, Seq, Sel, Guard, If, Do}
use Rattle.commands.specs.Sets.{in_set}

-- BOOL's operand: 0 false, 1 true, any other unknown
abbrev pub truth_byte_text : ℕ → List ℕ
truth_byte_text zero = codes "BOOL false"
truth_byte_text (suc zero) = codes "BOOL true"
truth_byte_text (suc (suc n)) = codes "BOOL ?b"

abbrev pub leaf_text : Leaf → List ℕ
leaf_text (Int z) = codes "INT " ++ signed_decimal z
leaf_text (Bool b) = truth_byte_text b
leaf_text Iunk = codes "IUNK"
leaf_text (Var v) = codes "VAR " ++ decimal v

-- an operation goes by its name
abbrev pub expression_text : ExpressionCommand → List ℕ
expression_text (LeafC l) = leaf_text l
expression_text (Binary op place) = op_name op
expression_text Not = codes "NOT"

-- a number with a space before it
abbrev pub spaced : ℕ → List ℕ
spaced n = codes " " ++ decimal n

-- without its place and its parts
abbrev pub statement_text : StatementCommand → List ℕ
statement_text Skip = codes "SKIP"
statement_text (Set v) = codes "SET " ++ decimal v
statement_text (Send channel message count) = codes "SEND channel " ++ (decimal channel ++ (codes " message " ++ decimal message))
statement_text (Recv channel message count vs) =
    codes "RECV channel " ++ (decimal channel ++ (codes " message " ++ (decimal message ++ (codes " into" ++ flat_map spaced (take count vs)))))
statement_text (Seq place) = codes "SEQ"
statement_text (Sel place) = codes "SEL"
statement_text (Guard place) = codes "GUARD"
statement_text (If place other) = codes "IF"
statement_text (Do place) = codes "DO"

-- a channel of a set, and all of them, ascending
abbrev pub channel_text : ℕ → ℕ → List ℕ
channel_text s c = cond (in_set s c) (spaced c) []

abbrev pub channels_text : ℕ → List ℕ
channels_text s = flat_map (channel_text s) (range_with_len 0 32)

-- without its place and its parts
abbrev pub behaviour_text : BehaviourCommand → List ℕ
behaviour_text (Proc class) = codes "PROC class " ++ decimal class
behaviour_text (Par place) = codes "PAR"
behaviour_text (Hide set) = codes "HIDE" ++ channels_text set
behaviour_text (Rename from to) = codes "RENAME " ++ (decimal from ++ (codes " to " ++ decimal to))
