use Rattle.files.proofs.body.Body.+check_statement.Given as goal

abbrev pub decreases-check_statement : goal.decreases-check_statement
decreases-check_statement l = l.left
