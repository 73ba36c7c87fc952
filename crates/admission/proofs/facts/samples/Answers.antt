use Rattle.std.proofs.Common.{refl}
use Rattle.files.specs.Behaviours.{check_behaviour}
use Rattle.files.specs.Expressions.{check_expression}
use Rattle.files.specs.Statements.{check_statement}
use Rattle.admission.proofs.facts.samples.Goals as goal

pub returns : goal.returns
unfolding check_expression check_statement check_behaviour
returns c =
    record {
      loads = refl;
      last_byte_removed = refl;
      absent_variable = refl;
      undeclared_message = refl;
      deepest = refl;
      too_deep = refl;
      eight_fronts = refl;
      nine_fronts = refl;
    }
