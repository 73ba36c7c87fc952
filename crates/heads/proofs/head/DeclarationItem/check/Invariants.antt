use Rattle.std.proofs.Common.{◌≡◌, ◌+◌, ◌-◌, ◌≤◌, length}
use Rattle.heads.specs.Heads.{check_declaration}
use Rattle.heads.proofs.KindBytes.{kinds_from}
use Rattle.heads.proofs.head.DeclarationItem.check.Given as goal

abbrev pub invariant-loop-i : goal.invariant-loop-i
invariant-loop-i l =
    record {
      same : check_declaration l.file l.at ≡ kinds_from l.file l.at (4 - l.i) l.i;
      inside : l.at + 4 + l.i ≤ length l.file;
    }
