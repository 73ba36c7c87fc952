use Rattle.std.proofs.Common.{rules}
use Rattle.files.proofs.Stating.{statement_step}
use Rattle.files.proofs.body.Body.+check_statement.Goals.{in-Skip, in-Set+in_ok-end-in-Set, in-Send+in_ok-end-in-Send, in-Recv+in_ok-end-in-Recv, in-Seq+in_ok-middle-in-Seq+in_ok-placed-in-Seq+in_ok-end-in-Seq, in-Sel+in_ok-middle-in-Sel+in_ok-placed-in-Sel+in_ok-end-in-Sel, in-Guard+in_ok-body-in-Guard+in_ok-placed-in-Guard+in_ok-end-in-Guard, in-If+in_ok-yes-in-If+in_ok-placed-in-If+in_ok-no-in-If+in_ok-placed-in-If-2+in_ok-end-in-If, in-Do+in_ok-body-in-Do+in_ok-placed-in-Do+in_ok-end-in-Do}
use Rattle.files.proofs.body.Body.+check_statement.Goals as goal

pub returns-clause-exact : goal.returns-clause-exact
returns-clause-exact t c =
    elim c.match-command.branch [
      | in-Skip w ↦ search (rules, statement_step)
      | in-Set+in_ok-end-in-Set w ↦ search (rules, statement_step)
      | in-Send+in_ok-end-in-Send w ↦ search (rules, statement_step)
      | in-Recv+in_ok-end-in-Recv w ↦ search (rules, statement_step)
      | in-Seq+in_ok-middle-in-Seq+in_ok-placed-in-Seq+in_ok-end-in-Seq w ↦ search (rules, statement_step)
      | in-Sel+in_ok-middle-in-Sel+in_ok-placed-in-Sel+in_ok-end-in-Sel w ↦ search (rules, statement_step)
      | in-Guard+in_ok-body-in-Guard+in_ok-placed-in-Guard+in_ok-end-in-Guard w ↦ search (rules, statement_step)
      | in-If+in_ok-yes-in-If+in_ok-placed-in-If+in_ok-no-in-If+in_ok-placed-in-If-2+in_ok-end-in-If w ↦ search (rules, statement_step)
      | in-Do+in_ok-body-in-Do+in_ok-placed-in-Do+in_ok-end-in-Do w ↦ search (rules, statement_step)
    ]
