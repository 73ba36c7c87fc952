-- The fronts of a fresh process.
use Rattle.std.proofs.Common.{◌≡◌, ℕ, List, [], ◌∷◌, map, take, Option, ap, ◌∙◌, subst}
use Rattle.values.specs.declared.kind.Kind.{Kind}
use Rattle.values.specs.declared.row.Row.{Row}
use Rattle.values.specs.Values.{kind_of}
use Rattle.commands.specs.Trees.{Stmt, Declaration, Class}
use Rattle.processes.specs.declared.front.Front.{Front as FrontC}
use Rattle.processes.specs.Evaluation.{values_of}
use Rattle.processes.specs.Found.{Answers, Standing, front_numbered}
use Rattle.processes.specs.Fronts.{process_fronts}
use Rattle.processes.specs.Stores.{stores, process_stores}
use Rattle.processes.proofs.Kept.{process_stands}
use Rattle.processes.proofs.Stores.{Storing}
use Rattle.classes.specs.declared.fresh.Fresh.{Fresh}
use Rattle.classes.specs.Starts.{FreshOf}
use Rattle.inspect.specs.Offers.{first_fronts}

pub stands : (f : List ℕ) (c : Class) (p : Fresh) → FreshOf f c p → Standing f p.left (map kind_of c.variables) c.declarations (c.statement ∷ [])
stands f c p h = process_stands f p.left c.variables c (c.statement ∷ []) h.process

module _ (f : List ℕ) (p : Fresh) (r : Option FrontC) (n : ℕ) where
  -- an answer over the rows of the variables, over the class's values
  pub over_values : (c : Class) (rows : List Row) → rows ≡ take p.variables p.rows → FreshOf f c p → ((ks : List Kind) (ds : List Declaration) (ss : List Stmt) → Standing f p.left ks ds ss → Answers f (values_of rows) r (front_numbered n (process_fronts (values_of rows) ss))) → Answers f c.variables r (front_numbered n (first_fronts c))
  over_values c rows e h found =
      let same : values_of rows ≡ c.variables = ap values_of e ∙ h.values in
      subst (λ vs. Answers f vs r (front_numbered n (process_fronts vs (c.statement ∷ [])))) same (found _ _ _ (stands f c p h))

  -- and what it stores
  pub over_stores : (c : Class) (rows : List Row) → rows ≡ take p.variables p.rows → FreshOf f c p → ((ks : List Kind) (ds : List Declaration) (ss : List Stmt) → Standing f p.left ks ds ss → Storing r (process_stores (values_of rows) ss n)) → Storing r (stores c.variables c.statement n)
  over_stores c rows e h found =
      let same : values_of rows ≡ c.variables = ap values_of e ∙ h.values in
      subst (λ vs. Storing r (process_stores vs (c.statement ∷ []) n)) same (found _ _ _ (stands f c p h))
