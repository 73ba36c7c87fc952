-- What holds over every history.
use Rattle.choosers.specs.Meanings.{Meaning}
use Rattle.std.proofs.Math.Logic.{∥∥₁_map}
use Rattle.steps.specs.Kept.{ModelKept}
use Rattle.steps.specs.Models.{Model}
use Rattle.engine.specs.Calls.{World}
use Rattle.engine.specs.History.{new, afterwards, Reached}
use Rattle.engine.specs.Promises.{HoldsFrom, Promises}
use Rattle.engine.proofs.Emptying.{empty_at_rest}
use Rattle.engine.proofs.Ending.{runs_end}
use Rattle.engine.proofs.Keeping.{call_declared, reached_kept}
use Rattle.engine.proofs.Kept.{afterwards_kept, none_kept}
use Rattle.engine.proofs.Ruled.{runs_are_these}
use Rattle.engine.proofs.Serving.{fair_choosers_serve}

holds_from : (w : World) → ModelKept w.model → HoldsFrom w
holds_from w k = record {
  well_formed = λ calls. afterwards_kept calls w k;
  declared = λ calls call. call_declared call (afterwards calls w) (afterwards_kept calls w k);
  rest = λ calls room held. empty_at_rest (afterwards calls w).model (afterwards_kept calls w k) room held;
}

-- from a model that some history leads to
pub reached_holds : (m : Model) → ∥ Reached m ∥₁ → ∥ ((c : Meaning) → HoldsFrom (record { model = m; chooser = c })) ∥₁
reached_holds m r = ∥∥₁_map r (λ x. λ c. holds_from (record { model = m; chooser = c }) (reached_kept m x))

pub promises_hold : Promises
promises_hold = record {
  holds = λ c. holds_from (new c) none_kept;
  served = fair_choosers_serve;
  ends = runs_end;
  runs = runs_are_these;
}
