use Rattle.std.proofs.Common.{◌≡◌, drop, Some}
use Rattle.records.specs.Lists.{items, room_of}
use Rattle.engine.specs.History.{new}
use Rattle.engine.specs.Lent.{free_in}
use Rattle.engine.specs.Views.{world}
use Rattle.calling.proofs.Histories.{Stands}
use Rattle.calling.proofs.performing.perform_all.Given as goal

abbrev pub invariant-loop-call : goal.invariant-loop-call
invariant-loop-call g l = record {
  stands : Stands (room_of l.fn.table.list) (room_of l.fn.answers) l.calls
      (record { free = free_in l.fn.journal; world = new (g.C.Chooser.meaning l.fn.chooser); journal = items l.fn.journal.list; answers = items l.fn.answers; known = Some (items l.fn.table.list) })
      (drop l.call-index l.calls)
      (free_in l.journal) (world l.engine (g.C.Chooser.meaning l.chooser)) (items l.journal.list) (items l.answers) (items l.table.list);
  journal_room : room_of l.journal.list ≡ room_of l.fn.journal.list;
  table_room : room_of l.table.list ≡ room_of l.fn.table.list;
  answers_room : room_of l.answers ≡ room_of l.fn.answers;
}
