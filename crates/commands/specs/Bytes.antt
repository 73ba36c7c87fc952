-- The bytes of a tree that starts at a place of the file. A place operand is where the part before it ends.
use Rattle.std.specs.Prelude.{ℕ, ◌+◌, ◌-◌, ◌*◌, ◌/◌, ◌%◌, Bool, true, false, List, [], ◌∷◌, ◌++◌, map, length, replicate}
use Rattle.std.specs.Int.{w32}
use Rattle.std.proofs.Common.{of_z}
use Rattle.values.specs.declared.op.Op.{Op}
use Rattle.values.specs.declared.op.Op.TheVariants.{Add, Sub, Mul, Div, Less, Same, And, Or}
use Rattle.values.specs.declared.row.Row.{Row}
use Rattle.values.specs.Kinds.{kind_number}
use Rattle.values.specs.Rows.{row_of}
use Rattle.values.specs.Values.{Val}
use Rattle.commands.specs.declared.expression.Leaf.{Leaf}
use Rattle.commands.specs.declared.expression.Leaf.TheVariants.{Int, Bool as BoolL, Iunk, Var}
use Rattle.commands.specs.Trees.{Expr, leaf, binary, negation, Stmt, skip, assign, send, receive, sequence, select, guard, branch, loop, Behaviour, process, parallel, hide, rename, Declaration, Class, File, expr_size, stmt_size, behaviour_size}

-- numbers, low byte first
abbrev pub word : ℕ → List ℕ
word n = n % 256 ∷ n / 256 ∷ []

abbrev pub long : ℕ → List ℕ
long n = n % 256 ∷ n / 256 % 256 ∷ n / 65536 % 256 ∷ n / 16777216 ∷ []

abbrev pub op_byte : Op → ℕ
op_byte Add = 0x05
op_byte Sub = 0x06
op_byte Mul = 0x07
op_byte Div = 0x08
op_byte Less = 0x09
op_byte Same = 0x0a
op_byte And = 0x0b
op_byte Or = 0x0c

abbrev pub leaf_bytes : Leaf → List ℕ
leaf_bytes (Int z) = 0x01 ∷ long (of_z w32 z)
leaf_bytes (BoolL b) = 0x02 ∷ b ∷ []
leaf_bytes Iunk = 0x03 ∷ []
leaf_bytes (Var v) = 0x04 ∷ v ∷ []

abbrev pub expr_bytes : ℕ → Expr → List ℕ
expr_bytes at (leaf l) = leaf_bytes l
expr_bytes at (binary op a b) = let m = at + 3 + expr_size a in op_byte op ∷ (word m ++ (expr_bytes (at + 3) a ++ expr_bytes m b))
expr_bytes at (negation a) = 0x0d ∷ expr_bytes (at + 1) a

abbrev pub exprs_bytes : ℕ → List Expr → List ℕ
exprs_bytes at [] = []
exprs_bytes at (e ∷ es) = expr_bytes at e ++ exprs_bytes (at + expr_size e) es

-- four bytes, FF where unused
abbrev pub padded : List ℕ → List ℕ
padded vs = vs ++ replicate (4 - length vs) 255

abbrev pub stmt_bytes : ℕ → Stmt → List ℕ
stmt_bytes at skip = 0x20 ∷ []
stmt_bytes at (assign v e) = 0x21 ∷ v ∷ expr_bytes (at + 2) e
stmt_bytes at (send c m es) = 0x22 ∷ c ∷ m ∷ length es ∷ exprs_bytes (at + 4) es
stmt_bytes at (receive c m vs) = 0x23 ∷ c ∷ m ∷ length vs ∷ padded vs
stmt_bytes at (sequence a b) = let m = at + 3 + stmt_size a in 0x24 ∷ (word m ++ (stmt_bytes (at + 3) a ++ stmt_bytes m b))
stmt_bytes at (select a b) = let m = at + 3 + stmt_size a in 0x25 ∷ (word m ++ (stmt_bytes (at + 3) a ++ stmt_bytes m b))
stmt_bytes at (guard e a) = let m = at + 3 + expr_size e in 0x26 ∷ (word m ++ (expr_bytes (at + 3) e ++ stmt_bytes m a))
stmt_bytes at (branch e a b) =
    let m = at + 5 + expr_size e in
    let n = m + stmt_size a in
    0x27 ∷ (word m ++ (word n ++ (expr_bytes (at + 5) e ++ (stmt_bytes m a ++ stmt_bytes n b))))
stmt_bytes at (loop e a) = let m = at + 3 + expr_size e in 0x28 ∷ (word m ++ (expr_bytes (at + 3) e ++ stmt_bytes m a))

abbrev pub behaviour_bytes : ℕ → Behaviour → List ℕ
behaviour_bytes at (process c) = 0x40 ∷ c ∷ []
behaviour_bytes at (parallel a b) = let m = at + 3 + behaviour_size a in 0x41 ∷ (word m ++ (behaviour_bytes (at + 3) a ++ behaviour_bytes m b))
behaviour_bytes at (hide s a) = 0x42 ∷ (long s ++ behaviour_bytes (at + 5) a)
behaviour_bytes at (rename x y a) = 0x43 ∷ x ∷ y ∷ behaviour_bytes (at + 3) a

-- a variable: the row of its start value
abbrev pub row_bytes : Row → List ℕ
row_bytes r = r.kind ∷ r.known ∷ long (of_z w32 r.number)

abbrev pub variables_bytes : List Val → List ℕ
variables_bytes [] = []
variables_bytes (v ∷ vs) = row_bytes (row_of v) ++ variables_bytes vs

abbrev pub direction : Bool → ℕ
direction false = 0
direction true = 1

abbrev pub declaration_bytes : Declaration → List ℕ
declaration_bytes d =
    direction d.receives ∷ d.channel ∷ d.message ∷ length d.kinds ∷ (map kind_number d.kinds ++ replicate (4 - length d.kinds) 0)

abbrev pub declarations_bytes : List Declaration → List ℕ
declarations_bytes [] = []
declarations_bytes (d ∷ ds) = declaration_bytes d ++ declarations_bytes ds

abbrev pub head_size : Class → ℕ
head_size c = 2 + 6 * length c.variables + 8 * length c.declarations

abbrev pub class_size : Class → ℕ
class_size c = 2 + head_size c + stmt_size c.statement

-- a class at a place: its length, its head, its statement
abbrev pub class_bytes : ℕ → Class → List ℕ
class_bytes at c =
    word (head_size c + stmt_size c.statement)
    ++ (length c.variables ∷ (variables_bytes c.variables
    ++ (length c.declarations ∷ (declarations_bytes c.declarations
    ++ stmt_bytes (at + 2 + head_size c) c.statement))))

abbrev pub classes_bytes : ℕ → List Class → List ℕ
classes_bytes at [] = []
classes_bytes at (c ∷ cs) = class_bytes at c ++ classes_bytes (at + class_size c) cs

abbrev pub classes_size : List Class → ℕ
classes_size [] = 0
classes_size (c ∷ cs) = class_size c + classes_size cs

abbrev pub file_bytes : File → List ℕ
file_bytes f =
    0x50 ∷ 0x53 ∷ 0x01 ∷ length f.classes
    ∷ (classes_bytes 4 f.classes ++ behaviour_bytes (4 + classes_size f.classes) f.behaviour)
