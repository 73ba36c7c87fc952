use Rattle.std.proofs.Common.{◌-◌, length}
use Rattle.sheet.proofs.reader.Reader.+work.Given as goal

abbrev pub decreases-work : goal.decreases-work
decreases-work l = length l.self.now.words.now - l.self.now.at
