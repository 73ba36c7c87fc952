-- What a process keeps of its class, whatever fronts are taken.
use Rattle.std.specs.Prelude.{◌≡◌, ℕ, ◌+◌, ◌<◌, ◌≤◌, true, false, ◌⊎◌, List, [], ◌∷◌, map, length, slice_set}
use Rattle.std.specs.List.{AllByRecursion}
use Rattle.values.specs.declared.kind.Kind.{Kind}
use Rattle.values.specs.Values.{Val, kind_of}
use Rattle.commands.specs.Depths.{stmt_depth}
use Rattle.commands.specs.Trees.{Stmt, skip, assign, send, receive, sequence, select, guard, branch, loop, Declaration, Class}
use Rattle.heads.specs.Exchanges.{exchange}
use Rattle.admission.specs.Conditions.{Declares, HaveKinds, StmtKept, ClassKept}
use Rattle.processes.specs.Fronts.{Action, internal, sends, receives, Front, process_fronts}

-- the second is the first or a statement in it
abbrev pub Part : Stmt → Stmt → Type 0
Part skip s = s ≡ skip
Part (assign v e) s = s ≡ assign v e
Part (send c m es) s = s ≡ send c m es
Part (receive c m ws) s = s ≡ receive c m ws
Part (sequence a b) s = (s ≡ sequence a b) ⊎ (Part a s ⊎ Part b s)
Part (select a b) s = (s ≡ select a b) ⊎ (Part a s ⊎ Part b s)
Part (guard e a) s = (s ≡ guard e a) ⊎ Part a s
Part (branch e a b) s = (s ≡ branch e a b) ⊎ (Part a s ⊎ Part b s)
Part (loop e a) s = (s ≡ loop e a) ⊎ Part a s

-- each statement, with all that nests in it, has room above those behind it
abbrev pub HasRoom : List Stmt → Type 0
HasRoom [] = Unit {0}
HasRoom (s ∷ rest) = (length rest + stmt_depth s ≤ 32) × HasRoom rest

-- the variables of a process, and what remains of it, belong to its class
pub record ProcessOf (c : Class) (vs : List Val) (left : List Stmt) : Type 0 where
  pub kinds : map kind_of vs ≡ map kind_of c.variables
  pub parts : AllByRecursion (Part c.statement) left
  pub room : HasRoom left

-- values put into variables, one after the other
abbrev pub stored : List Val → List ℕ → List Val → List Val
stored vs [] got = vs
stored vs (w ∷ ws) [] = vs
stored vs (w ∷ ws) (x ∷ got) = stored (slice_set vs w x) ws got

-- the variables that a front's own work leaves, with the values that it received
abbrev pub after : List Val → Action → List Val → List Val
after vs internal got = vs
after vs (sends c m xs) got = vs
after vs (receives c m ws) got = stored vs ws got

-- what a front may do in a process of a class: a send or receive is declared, with its kinds
abbrev pub Permitted : Class → Action → Type 0
Permitted c internal = Unit {0}
Permitted c (sends channel message xs) = Declares c.declarations (exchange false channel message (map kind_of xs))
Permitted c (receives channel message ws) =
    (ks : List Kind) × HaveKinds (map kind_of c.variables) ws ks × Declares c.declarations (exchange true channel message ks)

-- values that a receive may bring
abbrev pub Brings : Class → Action → List Val → Type 0
Brings c internal got = Unit {0}
Brings c (sends channel message xs) got = Unit {0}
Brings c (receives channel message ws) got = HaveKinds (map kind_of c.variables) ws (map kind_of got)

pub record FrontOf (c : Class) (x : Front) : Type 0 where
  pub permitted : Permitted c x.does
  pub goes_on : (got : List Val) → Brings c x.does got → ProcessOf c (after x.variables x.does got) x.leaves
  pub numbered : x.number < 8

-- the same over kinds of variables and declarations, whatever class they are of
abbrev pub PermittedBy : List Kind → List Declaration → Action → Type 0
PermittedBy ks ds internal = Unit {0}
PermittedBy ks ds (sends channel message xs) = Declares ds (exchange false channel message (map kind_of xs))
PermittedBy ks ds (receives channel message ws) = (js : List Kind) × HaveKinds ks ws js × Declares ds (exchange true channel message js)

abbrev pub BringsOver : List Kind → Action → List Val → Type 0
BringsOver ks internal got = Unit {0}
BringsOver ks (sends channel message xs) got = Unit {0}
BringsOver ks (receives channel message ws) got = HaveKinds ks ws (map kind_of got)

-- a front of statements that each keep these kinds and declarations
pub record FrontKept (ks : List Kind) (ds : List Declaration) (x : Front) : Type 0 where
  pub permitted : PermittedBy ks ds x.does
  pub kinds : (got : List Val) → BringsOver ks x.does got → map kind_of (after x.variables x.does got) ≡ ks
  pub leaves_kept : AllByRecursion (StmtKept ks ds) x.leaves
  pub room : HasRoom x.leaves
  pub numbered : x.number < 8

pub record ClassLaws : Type 0 where
  pub fresh : (c : Class) → ClassKept c → ProcessOf c c.variables (c.statement ∷ [])
  pub fronts_kept : (c : Class) (vs : List Val) (left : List Stmt) → ClassKept c → ProcessOf c vs left → AllByRecursion (FrontOf c) (process_fronts vs left)
  -- what remains of a process fits in 32 places
  pub few : (c : Class) (vs : List Val) (left : List Stmt) → ProcessOf c vs left → length left ≤ 32
  pub few_left : (left : List Stmt) → HasRoom left → length left ≤ 32
  -- the same of statements that each keep these kinds and declarations
  pub statements_kept : (ks : List Kind) (ds : List Declaration) (vs : List Val) (left : List Stmt) → map kind_of vs ≡ ks → AllByRecursion (StmtKept ks ds) left → HasRoom left → AllByRecursion (FrontKept ks ds) (process_fronts vs left)
