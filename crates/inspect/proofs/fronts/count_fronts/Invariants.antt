use Rattle.std.proofs.Common.{◌≤◌}
use Rattle.commands.specs.Trees.{Class}
use Rattle.classes.specs.Starts.{FreshOf}
use Rattle.inspect.specs.Offers.{first_fronts}
use Rattle.inspect.proofs.Counting.{Counted}
use Rattle.inspect.proofs.fronts.count_fronts.Given as goal

abbrev pub invariant-loop-number : goal.invariant-loop-number
invariant-loop-number l = (l.count ≤ l.number) × ((c : Class) → FreshOf l.file c l.process → Counted (first_fronts c) l.count l.number)
