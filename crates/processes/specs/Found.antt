-- How a front in the code stands for a front of trees.
use Rattle.std.specs.Prelude.{◌≡◌, ℕ, ◌≤◌, cond, not, List, [], ◌∷◌, map, length, Some, None, Option, ◌==◌, slice_set}
use Rattle.std.specs.List.{AllByRecursion}
use Rattle.values.specs.declared.few.Few.{Few}
use Rattle.values.specs.declared.kind.Kind.{Kind}
use Rattle.values.specs.declared.row.Row.{Row}
use Rattle.values.specs.Few.{listed}
use Rattle.values.specs.Rows.{value_of_row}
use Rattle.values.specs.Values.{Val}
use Rattle.commands.specs.Stands.{StmtAt}
use Rattle.commands.specs.Trees.{Stmt, Declaration, Class}
use Rattle.admission.specs.Conditions.{StmtKept, ClassKept}
use Rattle.processes.specs.declared.front.Action.{Action as ActionC}
use Rattle.processes.specs.declared.front.Action.TheVariants.{Internal, Store, Send, Receive}
use Rattle.processes.specs.declared.front.Front.{Front as FrontC}
use Rattle.processes.specs.declared.left.Left.{Left}
use Rattle.processes.specs.Classes.{HasRoom, ProcessOf}
use Rattle.processes.specs.Fronts.{Action, internal, sends, receives, Front, is_true, is_false}
use Rattle.processes.specs.Places.{places_of}

abbrev pub values_in : Few Row 4 → List Val
values_in s = map value_of_row (listed s)

abbrev pub variables_in : Few ℕ 4 → List ℕ
variables_in t = listed t

abbrev pub action_of : ActionC → Action
action_of Internal = internal
action_of (Store v row) = internal
action_of (Send channel message s) = sends channel message (values_in s)
action_of (Receive channel message t) = receives channel message (variables_in t)

-- what an action of the code stores by itself: a variable and its value, or nothing
abbrev pub stored_by : ActionC → Option (ℕ × Val)
stored_by Internal = None
stored_by (Store v row) = Some (v, value_of_row row)
stored_by (Send channel message s) = None
stored_by (Receive channel message t) = None

-- the variables that an action of the code leaves by itself
abbrev pub own_work : List Val → ActionC → List Val
own_work vs Internal = vs
own_work vs (Store v row) = slice_set vs v (value_of_row row)
own_work vs (Send channel message s) = vs
own_work vs (Receive channel message t) = vs

-- these statements stand at these places
abbrev pub StmtsAt : List ℕ → List ℕ → List Stmt → Type 0
StmtsAt f [] [] = Unit {0}
StmtsAt f [] (s ∷ ss) = ⊥
StmtsAt f (p ∷ ps) [] = ⊥
StmtsAt f (p ∷ ps) (s ∷ ss) = StmtAt f p s × StmtsAt f ps ss

pub record StandsFor (f : List ℕ) (vs : List Val) (x : FrontC) (y : Front) : Type 0 where
  pub does : action_of x.action ≡ y.does
  pub variables : own_work vs x.action ≡ y.variables
  pub leaves : StmtsAt f (places_of x.leaves) y.leaves

abbrev pub Answers : List ℕ → List Val → Option FrontC → Option Front → Type 0
Answers f vs None None = Unit {0}
Answers f vs None (Some y) = ⊥
Answers f vs (Some x) None = ⊥
Answers f vs (Some x) (Some y) = StandsFor f vs x y

-- the front of a number
abbrev pub front_numbered : ℕ → List Front → Option Front
front_numbered n [] = None
front_numbered n (x ∷ xs) = cond (x.number == n) (Some x) (front_numbered n xs)

-- a statement of a class, at a place, before the rest of its process
pub record Ready (f : List ℕ) (at : ℕ) (rest : Left) (s : Stmt) (ss : List Stmt) : Type 0 where
  pub short : length f ≤ 4096
  pub here : StmtAt f at s
  pub behind : StmtsAt f (places_of rest) ss
  pub kept : (ks : List Kind) × (ds : List Declaration) × StmtKept ks ds s
  pub room : HasRoom (s ∷ ss)

-- what remains of a process of a class, by its places
pub record ProcessAt (f : List ℕ) (left : Left) (vs : List Val) (c : Class) (ss : List Stmt) : Type 0 where
  pub short : length f ≤ 4096
  pub class_kept : ClassKept c
  pub of_class : ProcessOf c vs ss
  pub places : StmtsAt f (places_of left) ss

-- what remains of a process, by its places: statements that each keep these kinds of variables and these declarations
pub record Standing (f : List ℕ) (left : Left) (ks : List Kind) (ds : List Declaration) (ss : List Stmt) : Type 0 where
  pub short : length f ≤ 4096
  pub places : StmtsAt f (places_of left) ss
  pub kept : AllByRecursion (StmtKept ks ds) ss
  pub room : HasRoom ss

-- one front, or the two of a condition, by number
abbrev pub one_front : ℕ → ActionC → Left → Option FrontC
one_front n a l = cond (n == 0) (Some (record { action = a; leaves = l })) None

abbrev pub two_fronts : Val → ℕ → Left → Left → Option FrontC
two_fronts v n a b =
    cond (n == 0) (cond (not (is_false v)) (Some (record { action = Internal; leaves = a })) None)
    (cond (n == 1) (cond (not (is_true v)) (Some (record { action = Internal; leaves = b })) None) None)
