-- Laws of fronts.
use Rattle.std.specs.Prelude.{◌≡◌, ℕ, ◌+◌, ◌-◌, ◌≤◌, false, List, [], ◌∷◌, map, Some, IfSome}
use Rattle.std.specs.List.{slice_get, AllByRecursion}
use Rattle.values.specs.declared.kind.Kind.{Kind}
use Rattle.values.specs.Values.{Val, kind_of}
use Rattle.commands.specs.declared.expression.Leaf.TheVariants.{Bool as BoolL}
use Rattle.commands.specs.Trees.{Expr, leaf, Stmt, select, guard, Declaration, Class}
use Rattle.admission.specs.Conditions.{StmtKept, ClassKept, most_fronts}
use Rattle.processes.specs.declared.left.Left.{Left}
use Rattle.processes.specs.Found.{ProcessAt, Standing}
use Rattle.processes.specs.Evaluation.{eval}
use Rattle.processes.specs.Fronts.{Front, is_true, fronts, process_fronts}
use Rattle.processes.specs.Stores.{stores, process_stores, with_stored}
use Rattle.processes.specs.Classes.{ProcessOf, ClassLaws}
use Rattle.processes.specs.Waiting.{FrontsAndWaiting}

-- the numbers ascend strictly, from one number on and below another
abbrev pub Ascend : ℕ → List Front → ℕ → Type 0
Ascend from [] below = from ≤ below
Ascend from (x ∷ xs) below = (from ≤ x.number) × Ascend (x.number + 1) xs below

pub record FrontLaws : Type 0 where
  -- front numbers ascend and stay below the most that the statement can have
  pub numbered : (vs : List Val) (n : ℕ) (s : Stmt) → Ascend n (fronts vs n s) (n + most_fronts s)
  pub waiting : FrontsAndWaiting
  pub classes : ClassLaws
  -- a front leaves the variables with what it stores put in
  pub leaves_stored : (vs : List Val) (n : ℕ) (s : Stmt) → AllByRecursion (λ (x : Front). x.variables ≡ with_stored vs (stores vs s (x.number - n))) (fronts vs n s)
  -- a process of a class stores only into a variable that exists, and a value of its kind
  pub stores_kept : (c : Class) (vs : List Val) (left : List Stmt) (n : ℕ) → ClassKept c → ProcessOf c vs left → IfSome (process_stores vs left n) (λ p. slice_get (map kind_of c.variables) p.0 ≡ Some (kind_of p.1))
  -- the same of statements that each keep these kinds and declarations
  pub stores_kept_by : (ks : List Kind) (ds : List Declaration) (vs : List Val) (left : List Stmt) (n : ℕ) → map kind_of vs ≡ ks → AllByRecursion (StmtKept ks ds) left → IfSome (process_stores vs left n) (λ p. slice_get ks p.0 ≡ Some (kind_of p.1))
  -- a guard that is unknown offers nothing
  pub unknown_guard : (vs : List Val) (s : Stmt) (rest : List Stmt) → process_fronts vs (guard (leaf (BoolL 2)) s ∷ rest) ≡ []
  -- a guard that is not true offers nothing, and in a SEL it keeps the numbers of what it could offer
  pub closed_first : (vs : List Val) (n : ℕ) (e : Expr) (a b : Stmt) → is_true (eval e vs) ≡ false → fronts vs n (select (guard e a) b) ≡ fronts vs (n + most_fronts a) b
  -- the statements left of a process of a class stand where they should
  pub process_stands : (f : List ℕ) (left : Left) (vs : List Val) (c : Class) (ss : List Stmt) → ProcessAt f left vs c ss → Standing f left (map kind_of c.variables) c.declarations ss
