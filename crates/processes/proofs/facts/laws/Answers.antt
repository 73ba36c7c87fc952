use Rattle.std.proofs.Common.{refl}
use Rattle.processes.proofs.Kept.{class_laws, process_stands}
use Rattle.processes.proofs.Numbered.{numbered}
use Rattle.processes.proofs.Stores.{leaves_stored, stores_kept, stores_kept_by}
use Rattle.processes.proofs.Waited.{fronts_and_waiting}
use Rattle.processes.proofs.facts.laws.Goals as goal

pub returns : goal.returns
returns c = record {
  numbered = numbered;
  waiting = fronts_and_waiting;
  classes = class_laws;
  leaves_stored = leaves_stored;
  stores_kept = stores_kept;
  stores_kept_by = stores_kept_by;
  process_stands = process_stands;
  unknown_guard = λ vs s rest. refl;
  closed_first = λ vs n e a b h. rw h;
}
