use Rattle.std.proofs.Common.{◌≡◌, ◌-◌, ◌++◌, replicate}
use Rattle.classes.specs.Classes.{rows_at}
use Rattle.classes.specs.Starts.{unknown_row}
use Rattle.classes.proofs.fresh.start_rows.Given as goal

abbrev pub invariant-loop-i : goal.invariant-loop-i
invariant-loop-i l = l.rows ≡ rows_at l.i l.file l.variables.at ++ replicate (8 - l.i) unknown_row
