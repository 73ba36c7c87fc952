use Rattle.files.proofs.behaviour.+check_behaviour.Given as goal

abbrev pub decreases-check_behaviour : goal.decreases-check_behaviour
decreases-check_behaviour l = l.left
