-- Which trees can be read back from their bytes.
use Rattle.std.specs.Prelude.{◌≡◌, ◌≤◌, true, List, [], ◌∷◌, length}
use Rattle.values.specs.Values.{in_range}
use Rattle.commands.specs.declared.expression.Leaf.{Leaf}
use Rattle.commands.specs.declared.expression.Leaf.TheVariants.{Int, Bool as BoolL, Iunk, Var}
use Rattle.commands.specs.Trees.{Expr, leaf, binary, negation, Stmt, skip, assign, send, receive, sequence, select, guard, branch, loop}

-- every Integer has 32 bits
abbrev pub LeafInRange : Leaf → Type 0
LeafInRange (Int z) = in_range z ≡ true
LeafInRange (BoolL b) = Unit {0}
LeafInRange Iunk = Unit {0}
LeafInRange (Var v) = Unit {0}

abbrev pub InRange : Expr → Type 0
InRange (leaf l) = LeafInRange l
InRange (binary op a b) = InRange a × InRange b
InRange (negation a) = InRange a

abbrev pub ExprsInRange : List Expr → Type 0
ExprsInRange [] = Unit {0}
ExprsInRange (e ∷ es) = InRange e × ExprsInRange es

-- and a RECV has room for its variables
abbrev pub StmtInRange : Stmt → Type 0
StmtInRange skip = Unit {0}
StmtInRange (assign v e) = InRange e
StmtInRange (send c m es) = ExprsInRange es
StmtInRange (receive c m vs) = length vs ≤ 4
StmtInRange (sequence a b) = StmtInRange a × StmtInRange b
StmtInRange (select a b) = StmtInRange a × StmtInRange b
StmtInRange (guard e a) = InRange e × StmtInRange a
StmtInRange (branch e a b) = InRange e × StmtInRange a × StmtInRange b
StmtInRange (loop e a) = InRange e × StmtInRange a
