use Rattle.std.proofs.Common.{◌≡◌, ◌-◌, length}
use Rattle.files.specs.Bodies.{kinds_in}
use Rattle.files.specs.Expressions.{check_expression}
use Rattle.files.specs.KindLists.{kinds_list}
use Rattle.files.specs.Statements.{check_values}
use Rattle.files.proofs.Valuing.{prefixed}
use Rattle.files.proofs.body.Body.check_values.Given as goal

abbrev pub invariant-loop-i : goal.invariant-loop-i
invariant-loop-i l =
    record {
      same : check_values l.count (λ p. check_expression l.left l.self.file.now p (kinds_in l.self)) l.at
          ≡ prefixed (kinds_list l.kinds) (check_values (l.count - l._i) (λ p. check_expression l.left l.self.file.now p (kinds_in l.self)) l.end);
      count : length (kinds_list l.kinds) ≡ l._i;
    }
