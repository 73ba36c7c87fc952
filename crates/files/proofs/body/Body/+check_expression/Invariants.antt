use Rattle.files.proofs.body.Body.+check_expression.Given as goal

abbrev pub decreases-check_expression : goal.decreases-check_expression
decreases-check_expression l = l.left
