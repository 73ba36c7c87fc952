-- Worked samples: the steps of a file, and the model after one.
use Rattle.std.specs.Prelude.{◌≡◌, ℕ, true, false, [], ◌∷◌, pos, Some, None, Ok, slice_set}
use Rattle.values.specs.declared.kind.Kind.TheVariants.{Integer}
use Rattle.values.specs.Values.{integer}
use Rattle.commands.specs.declared.expression.Leaf.TheVariants.{Var}
use Rattle.commands.specs.Trees.{leaf, send, receive, process, parallel, hide, File}
use Rattle.heads.specs.Exchanges.{exchange}
use Rattle.admission.specs.Read.{read}
use Rattle.admission.specs.Samples.{exchange_file}
use Rattle.records.specs.Steps.{meeting, outside_send, outside_receive}
use Rattle.steps.specs.Models.{Model, start}
use Rattle.steps.specs.Steps.{steps}
use Rattle.steps.specs.Taking.{process_numbered, after_step, refusal}

-- a class that sends its variable, 7, on channel 1, and one that receives it; a process of each, under a HIDE of a set
abbrev pub exchange_tree : ℕ → File
exchange_tree hidden =
    record {
      classes =
          record { variables = integer (Some (pos 7)) ∷ []; declarations = exchange false 1 2 (Integer ∷ []) ∷ []; statement = send 1 2 (leaf (Var 0) ∷ []) }
          ∷ record { variables = integer (Some (pos 0)) ∷ []; declarations = exchange true 1 2 (Integer ∷ []) ∷ []; statement = receive 1 2 (0 ∷ []) }
          ∷ [];
      behaviour = hide hidden (parallel (process 0) (process 1));
    }

-- as the file starts, and after its meeting
abbrev pub before_meeting : Model
before_meeting = start (exchange_tree 2)

abbrev pub after_meeting : Model
after_meeting = after_step before_meeting (meeting 0 0 1 0 1 2) []

pub record Samples : Type 0 where
  pub file : read exchange_file ≡ Ok (exchange_tree 2)
  pub one_step : steps before_meeting ≡ meeting 0 0 1 0 1 2 ∷ []
  pub taken : refusal before_meeting (meeting 0 0 1 0 1 2) [] ≡ None
  pub received : (process_numbered after_meeting 1).variables ≡ integer (Some (pos 7)) ∷ []
  pub at_rest : steps after_meeting ≡ []
  -- with channel 1 not hidden, both can also go outside
  pub open_file : read (slice_set exchange_file 55 0) ≡ Ok (exchange_tree 0)
  pub three_steps : steps (start (exchange_tree 0)) ≡ meeting 0 0 1 0 1 2 ∷ outside_send 0 0 1 2 ∷ outside_receive 1 0 1 2 ∷ []
