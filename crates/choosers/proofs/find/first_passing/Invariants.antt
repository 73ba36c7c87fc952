use Rattle.std.proofs.Common.{◌≡◌, Bool, drop}
use Rattle.records.specs.declared.step.Step.{Step}
use Rattle.choosers.specs.Firsts.{first, first_from, TestsAs}
use Rattle.choosers.proofs.find.first_passing.Given as goal

abbrev pub invariant-loop-i : goal.invariant-loop-i
invariant-loop-i g l = goal.F-IsAlwaysCallable g l.test × ((t : Step → Bool) → TestsAs g.F.Fn l.test t → first t l.closed ≡ first_from l.i t (drop l.i l.closed))
