use Rattle.std.proofs.Common.{◌≡◌, ◌+◌, ◌-◌, ◌*◌, ◌≤◌, length}
use Rattle.heads.specs.Checked.{repeated}
use Rattle.heads.proofs.head.check_items.Given as goal

abbrev pub invariant-loop-i : goal.invariant-loop-i
invariant-loop-i g l =
    record {
      same : repeated (g.I.Item.checked l.file) g.I.Item.SIZE l.count l.at ≡ repeated (g.I.Item.checked l.file) g.I.Item.SIZE (l.count - l._i) l.end;
      place : l.end ≡ l.at + g.I.Item.SIZE * l._i;
      inside : l.at ≤ length l.file → l.end ≤ length l.file;
    }
