-- Laws of arrivals.
use Rattle.std.specs.Prelude.{◌≡◌, ℕ, ◌+◌, ◌<◌, length, Some, None}
use Rattle.commands.specs.Bytes.{file_bytes, classes_size}
use Rattle.commands.specs.Trees.{Behaviour, process, parallel, hide, rename, File}
use Rattle.admission.specs.Conditions.{BehaviourKept, processes, Conditions}
use Rattle.arrivals.specs.Climbing.{climb, meeting_channel, arrival_table, arrival_in, KeptAt}
use Rattle.arrivals.specs.Ways.{ComesOut, way, MeetsAs}

-- a channel passes the root exactly as what comes out of all commands above its PROC
pub record RootLaws : Type 0 where
  pub passes : (b : Behaviour) (p c d : ℕ) → climb b p c ≡ Some d → ComesOut (way b p) c d
  pub is_passed : (b : Behaviour) (p c d : ℕ) → ComesOut (way b p) c d → climb b p c ≡ Some d
  pub stopped : (b : Behaviour) (p c : ℕ) → ((d : ℕ) → ComesOut (way b p) c d → ⊥) → climb b p c ≡ None

-- and it arrives at the lowest PAR above two processes as what comes out below that PAR
pub record MeetingLaws : Type 0 where
  pub arrives : (b : Behaviour) (p q c d : ℕ) → p < processes b → q < processes b → meeting_channel b p q c ≡ Some d → MeetsAs b p q c d
  pub is_arrival : (b : Behaviour) (p q c d : ℕ) → MeetsAs b p q c d → meeting_channel b p q c ≡ Some d
  pub stopped : (b : Behaviour) (p q c : ℕ) → p < processes b → q < processes b → ((d : ℕ) → MeetsAs b p q c d → ⊥) → meeting_channel b p q c ≡ None

-- the table of a behaviour has every arrival, and no channel above 31
pub record TableLaws : Type 0 where
  pub meeting : (n : ℕ) (b : Behaviour) (p q c : ℕ) → BehaviourKept n b → p < 8 → q < 8 → c < 32 → arrival_in (arrival_table b) p q c ≡ meeting_channel b p q c
  pub outside : (n : ℕ) (b : Behaviour) (p c : ℕ) → BehaviourKept n b → p < 8 → c < 32 → arrival_in (arrival_table b) p 8 c ≡ climb b p c
  pub small_meeting : (n : ℕ) (b : Behaviour) (p q c d : ℕ) → BehaviourKept n b → c < 32 → meeting_channel b p q c ≡ Some d → d < 32
  pub small_outside : (n : ℕ) (b : Behaviour) (p c d : ℕ) → BehaviourKept n b → c < 32 → climb b p c ≡ Some d → d < 32

-- a set of channels, and two processes below it
abbrev pub hidden_pair : ℕ → Behaviour
hidden_pair s = hide s (parallel (process 0) (process 1))

-- the behaviour of a build site: a planner, and two workers whose channel 4 is renamed to 1
abbrev pub build_site : Behaviour
build_site = hide 2 (parallel (process 0) (rename 4 1 (parallel (process 1) (process 1))))

pub record Samples : Type 0 where
  -- channel 1, hidden, meets and does not pass the root
  pub hidden_meets : meeting_channel (hidden_pair 2) 0 1 1 ≡ Some 1
  pub hidden_stops : climb (hidden_pair 2) 0 1 ≡ None
  -- not hidden it passes
  pub open_passes : climb (hidden_pair 0) 0 1 ≡ Some 1
  pub workers_meet : meeting_channel build_site 1 2 4 ≡ Some 4
  pub worker_meets_planner : meeting_channel build_site 2 0 4 ≡ Some 1
  pub planner_meets_worker : meeting_channel build_site 0 2 1 ≡ Some 1
  pub worker_stops : climb build_site 2 4 ≡ None
  pub worker_passes : climb build_site 1 9 ≡ Some 9

pub record ArrivalLaws : Type 0 where
  -- the behaviour of an admitted file is one that the functions over bytes ask for
  pub admitted : (t : File) → Conditions t → KeptAt (file_bytes t) (4 + classes_size t.classes) (length t.classes) t.behaviour
  pub root : RootLaws
  pub meetings : MeetingLaws
  pub table : TableLaws
  pub samples : Samples
