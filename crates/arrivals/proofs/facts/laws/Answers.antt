use Rattle.std.proofs.Common.{refl}
use Rattle.admission.proofs.Rereading.{reads_trees}
use Rattle.arrivals.proofs.Lookups.{table_laws}
use Rattle.arrivals.proofs.Meeting.{meeting_laws}
use Rattle.arrivals.proofs.Rooted.{root_laws}
use Rattle.arrivals.proofs.facts.laws.Goals as goal

pub returns : goal.returns
returns c =
    record {
      admitted = λ t k. record { here = reads_trees.behaviour_stands t k; kept = k.behaviour_kept; few = k.processes_few };
      root = root_laws;
      meetings = meeting_laws;
      table = table_laws;
      samples = record {
        hidden_meets = refl;
        hidden_stops = refl;
        open_passes = refl;
        workers_meet = refl;
        worker_meets_planner = refl;
        planner_meets_worker = refl;
        worker_stops = refl;
        worker_passes = refl;
      };
    }
