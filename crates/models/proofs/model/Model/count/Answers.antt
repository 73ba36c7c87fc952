use Rattle.std.proofs.Common.{sym}
use Rattle.std.proofs.lemmas.List.FromFn.{length-map-range_with_len}
use Rattle.tables.specs.Views.{process_in}
use Rattle.models.specs.Views.{bytes_of}
use Rattle.models.proofs.model.Model.count.Goals as goal

pub returns : goal.returns
returns c = let m = c.args.self.now in sym (length-map-range_with_len (process_in (bytes_of m) m.table) 0 m.count)
