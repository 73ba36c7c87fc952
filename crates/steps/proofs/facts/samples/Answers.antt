use Rattle.std.proofs.Common.{refl}
use Rattle.files.specs.Behaviours.{check_behaviour}
use Rattle.files.specs.Expressions.{check_expression}
use Rattle.files.specs.Statements.{check_statement}
use Rattle.parts.specs.Parts.{expr_in, stmt_in, behaviour_in}
use Rattle.steps.specs.Steps.{meetings, steps_of}
use Rattle.steps.proofs.facts.samples.Goals as goal

pub returns : goal.returns
unfolding check_expression check_statement check_behaviour expr_in stmt_in behaviour_in meetings steps_of
returns c =
    record {
      file = refl;
      one_step = refl;
      taken = refl;
      received = refl;
      at_rest = refl;
      open_file = refl;
      three_steps = refl;
    }
