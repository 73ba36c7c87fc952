use Rattle.std.proofs.Common.{append_assoc}
use Rattle.rota.proofs.turns.WaitingDisplay.fmt.Goals as goal

pub returns-clause-writes : goal.returns-clause-writes
returns-clause-writes g c = simp append_assoc at c.write.ensures.writes
