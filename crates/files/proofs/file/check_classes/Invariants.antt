use Rattle.std.proofs.Common.{◌≡◌, ◌-◌}
use Rattle.files.specs.Files.{check_classes}
use Rattle.files.proofs.file.check_classes.Given as goal

abbrev pub invariant-loop-i : goal.invariant-loop-i
invariant-loop-i l = check_classes l.count l.file l.start ≡ check_classes (l.count - l._i) l.file l.at
