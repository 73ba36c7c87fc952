-- The conditions that the tree of a model file keeps.
use Rattle.std.specs.Prelude.{◌≡◌, ℕ, ◌+◌, ◌^◌, ◌<◌, ◌≤◌, true, false, List, [], ◌∷◌, map, length, Some}
use Rattle.std.specs.List.{slice_get, AllByRecursion}
use Rattle.values.specs.declared.kind.Kind.{Kind}
use Rattle.values.specs.declared.kind.Kind.TheVariants.{Boolean}
use Rattle.values.specs.Kinds.{awaited}
use Rattle.values.specs.Laws.{Ranged}
use Rattle.values.specs.Ops.{part_kind, gives}
use Rattle.values.specs.Values.{in_range, kind_of}
use Rattle.commands.specs.declared.expression.Leaf.{Leaf}
use Rattle.commands.specs.declared.expression.Leaf.TheVariants.{Int, Bool as BoolL, Iunk, Var}
use Rattle.commands.specs.Bytes.{file_bytes}
use Rattle.commands.specs.Depths.{stmt_depth, behaviour_depth}
use Rattle.commands.specs.Trees.{Expr, leaf, binary, negation, Stmt, skip, assign, send, receive, sequence, select, guard, branch, loop, Behaviour, process, parallel, hide, rename, Declaration, Class, File}
use Rattle.files.specs.Expressions.{leaf_kind}
use Rattle.heads.specs.Exchanges.{exchange}

-- an expression of a kind over variables of these kinds: each part has the kind that its operation takes
abbrev pub LeafKept : List Kind → Kind → Leaf → Type 0
LeafKept ks k (Int z) = (leaf_kind ks (Int z) ≡ Some k) × (in_range z ≡ true)
LeafKept ks k (BoolL b) = leaf_kind ks (BoolL b) ≡ Some k
LeafKept ks k Iunk = leaf_kind ks Iunk ≡ Some k
LeafKept ks k (Var v) = leaf_kind ks (Var v) ≡ Some k

abbrev pub ExprKept : List Kind → Kind → Expr → Type 0
ExprKept ks k (leaf l) = LeafKept ks k l
ExprKept ks k (binary op a b) = (gives op ≡ k) × ((j : Kind) × (awaited (part_kind op) j ≡ true) × ExprKept ks j a × ExprKept ks j b)
ExprKept ks k (negation a) = (k ≡ Boolean) × ExprKept ks Boolean a

abbrev pub ExprsKept : List Kind → List Kind → List Expr → Type 0
ExprsKept ks [] [] = Unit {0}
ExprsKept ks [] (e ∷ es) = ⊥
ExprsKept ks (j ∷ js) [] = ⊥
ExprsKept ks (j ∷ js) (e ∷ es) = ExprKept ks j e × ExprsKept ks js es

-- the most fronts that a statement can have: every guard true, every condition unknown
abbrev pub most_fronts : Stmt → ℕ
most_fronts skip = 1
most_fronts (assign v e) = 1
most_fronts (send c m es) = 1
most_fronts (receive c m vs) = 1
most_fronts (sequence a b) = most_fronts a
most_fronts (select a b) = most_fronts a + most_fronts b
most_fronts (guard e a) = most_fronts a
most_fronts (branch e a b) = 2
most_fronts (loop e a) = 2

-- some declaration of the class is this one
abbrev pub Declares : List Declaration → Declaration → Type 0
Declares ds d = (i : ℕ) × (slice_get ds i ≡ Some d)

-- no variable is named twice
abbrev pub Differ : List ℕ → Type 0
Differ vs = (i j v : ℕ) → slice_get vs i ≡ Some v → slice_get vs j ≡ Some v → i ≡ j

-- the variables exist and have these kinds
abbrev pub HaveKinds : List Kind → List ℕ → List Kind → Type 0
HaveKinds ks [] [] = Unit {0}
HaveKinds ks [] (k ∷ js) = ⊥
HaveKinds ks (v ∷ vs) [] = ⊥
HaveKinds ks (v ∷ vs) (k ∷ js) = (slice_get ks v ≡ Some k) × HaveKinds ks vs js

-- bounds of a channel, a message and a number of values
pub record ExchangeKept (channel message count : ℕ) : Type 0 where
  pub channel_kept : channel < 32
  pub message_kept : message < 255
  pub count_kept : count ≤ 4

-- a statement of a class of these variables and declarations
abbrev pub StmtKept : List Kind → List Declaration → Stmt → Type 0
StmtKept ks ds skip = Unit {0}
StmtKept ks ds (assign v e) = (k : Kind) × (slice_get ks v ≡ Some k) × ExprKept ks k e
StmtKept ks ds (send c m es) = ExchangeKept c m (length es) × ((js : List Kind) × ExprsKept ks js es × Declares ds (exchange false c m js))
StmtKept ks ds (receive c m vs) = ExchangeKept c m (length vs) × Differ vs × ((js : List Kind) × HaveKinds ks vs js × Declares ds (exchange true c m js))
StmtKept ks ds (sequence a b) = StmtKept ks ds a × StmtKept ks ds b
StmtKept ks ds (select a b) = (most_fronts a + most_fronts b ≤ 8) × StmtKept ks ds a × StmtKept ks ds b
StmtKept ks ds (guard e a) = ExprKept ks Boolean e × StmtKept ks ds a
StmtKept ks ds (branch e a b) = ExprKept ks Boolean e × StmtKept ks ds a × StmtKept ks ds b
StmtKept ks ds (loop e a) = ExprKept ks Boolean e × StmtKept ks ds a

-- a behaviour over so many classes
abbrev pub BehaviourKept : ℕ → Behaviour → Type 0
BehaviourKept n (process c) = c < n
BehaviourKept n (parallel a b) = BehaviourKept n a × BehaviourKept n b
BehaviourKept n (hide s a) = (s < 2 ^ 32) × BehaviourKept n a
BehaviourKept n (rename x y a) = (x < 32) × (y < 32) × BehaviourKept n a

abbrev pub processes : Behaviour → ℕ
processes (process c) = 1
processes (parallel a b) = processes a + processes b
processes (hide s a) = processes a
processes (rename x y a) = processes a

pub record DeclarationKept (d : Declaration) : Type 0 where
  pub exchange_kept : ExchangeKept d.channel d.message (length d.kinds)

pub record ClassKept (c : Class) : Type 0 where
  pub variables_few : length c.variables ≤ 8
  pub values_kept : AllByRecursion Ranged c.variables
  pub declarations_few : length c.declarations ≤ 16
  pub declarations_kept : AllByRecursion DeclarationKept c.declarations
  pub statement_kept : StmtKept (map kind_of c.variables) c.declarations c.statement
  pub statement_deep : stmt_depth c.statement ≤ 32

pub record Conditions (f : File) : Type 0 where
  pub some_class : 1 ≤ length f.classes
  pub classes_few : length f.classes ≤ 8
  pub classes_kept : AllByRecursion ClassKept f.classes
  pub behaviour_kept : BehaviourKept (length f.classes) f.behaviour
  pub behaviour_deep : behaviour_depth f.behaviour ≤ 32
  pub processes_few : processes f.behaviour ≤ 8
  pub short : length (file_bytes f) ≤ 4096
