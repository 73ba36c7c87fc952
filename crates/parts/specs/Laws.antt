-- The tree that stands at a place is the one read there, given fuel for its depth.
use Rattle.std.specs.Prelude.{◌≡◌, ℕ, ◌≤◌, List, length}
use Rattle.commands.specs.Depths.{expr_depth, exprs_depth, stmt_depth, behaviour_depth}
use Rattle.commands.specs.Stands.{ExprAt, ExprsAt, StmtAt, BehaviourAt}
use Rattle.commands.specs.Trees.{Expr, Stmt, Behaviour}
use Rattle.parts.specs.Parts.{expr_in, exprs_in, stmt_in, behaviour_in}

pub record PartsRead : Type 0 where
  pub expr_read : (t : Expr) (d : ℕ) (f : List ℕ) (at : ℕ) → ExprAt f at t → expr_depth t ≤ d → expr_in d f at ≡ t
  pub exprs_read : (ts : List Expr) (d : ℕ) (f : List ℕ) (at : ℕ) → ExprsAt f at ts → exprs_depth ts ≤ d → exprs_in (length ts) d f at ≡ ts
  pub stmt_read : (t : Stmt) (d : ℕ) (f : List ℕ) (at : ℕ) → StmtAt f at t → stmt_depth t ≤ d → stmt_in d f at ≡ t
  pub behaviour_read : (t : Behaviour) (d : ℕ) (f : List ℕ) (at : ℕ) → BehaviourAt f at t → behaviour_depth t ≤ d → behaviour_in d f at ≡ t
