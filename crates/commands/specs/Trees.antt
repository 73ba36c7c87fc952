-- Expressions, statements, behaviours, classes and files as trees.
use Rattle.std.specs.Prelude.{ℕ, ◌+◌, Bool, List, [], ◌∷◌}
use Rattle.values.specs.declared.kind.Kind.{Kind}
use Rattle.values.specs.declared.op.Op.{Op}
use Rattle.values.specs.Values.{Val}
use Rattle.commands.specs.declared.expression.Leaf.{Leaf}
use Rattle.commands.specs.Expressions.{leaf_size}

pub data Expr : Type 0 where
  leaf : Leaf → Expr
  binary : Op → Expr → Expr → Expr
  negation : Expr → Expr

pub data Stmt : Type 0 where
  skip : Stmt
  -- variable and value
  assign : ℕ → Expr → Stmt
  -- channel, message, values
  send : ℕ → ℕ → List Expr → Stmt
  -- channel, message, variables
  receive : ℕ → ℕ → List ℕ → Stmt
  sequence : Stmt → Stmt → Stmt
  select : Stmt → Stmt → Stmt
  guard : Expr → Stmt → Stmt
  branch : Expr → Stmt → Stmt → Stmt
  loop : Expr → Stmt → Stmt

pub data Behaviour : Type 0 where
  -- class
  process : ℕ → Behaviour
  parallel : Behaviour → Behaviour → Behaviour
  -- set of channels, bit c for channel c
  hide : ℕ → Behaviour → Behaviour
  -- from, to
  rename : ℕ → ℕ → Behaviour → Behaviour

-- what a class may send or receive
pub record Declaration : Type 0 where
  pub receives : Bool
  pub channel : ℕ
  pub message : ℕ
  pub kinds : List Kind

-- a variable is given by its start value, which has its kind
pub record Class : Type 0 where
  pub variables : List Val
  pub declarations : List Declaration
  pub statement : Stmt

pub record File : Type 0 where
  pub classes : List Class
  pub behaviour : Behaviour

-- the bytes that they take
abbrev pub expr_size : Expr → ℕ
expr_size (leaf l) = leaf_size l
expr_size (binary op a b) = 3 + expr_size a + expr_size b
expr_size (negation a) = 1 + expr_size a

abbrev pub exprs_size : List Expr → ℕ
exprs_size [] = 0
exprs_size (e ∷ es) = expr_size e + exprs_size es

abbrev pub stmt_size : Stmt → ℕ
stmt_size skip = 1
stmt_size (assign v e) = 2 + expr_size e
stmt_size (send c m es) = 4 + exprs_size es
stmt_size (receive c m vs) = 8
stmt_size (sequence a b) = 3 + stmt_size a + stmt_size b
stmt_size (select a b) = 3 + stmt_size a + stmt_size b
stmt_size (guard e a) = 3 + expr_size e + stmt_size a
stmt_size (branch e a b) = 5 + expr_size e + stmt_size a + stmt_size b
stmt_size (loop e a) = 3 + expr_size e + stmt_size a

abbrev pub behaviour_size : Behaviour → ℕ
behaviour_size (process c) = 2
behaviour_size (parallel a b) = 3 + behaviour_size a + behaviour_size b
behaviour_size (hide s a) = 5 + behaviour_size a
behaviour_size (rename x y a) = 3 + behaviour_size a
