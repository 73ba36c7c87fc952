use Rattle.std.proofs.Common.{◌≡◌, Ok}
use Rattle.files.specs.Files.{Summary, check_file}
use Rattle.models.specs.Making.{FreshTable}
use Rattle.models.proofs.model.making.fresh_table.Given as goal

abbrev pub invariant-loop-p : goal.invariant-loop-p
invariant-loop-p l = (s : Summary) → check_file l.file ≡ Ok s → s.1 ≡ l.at → s.2 ≡ l.count → FreshTable l.file s l.table l.p
