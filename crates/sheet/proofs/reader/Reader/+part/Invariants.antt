use Rattle.sheet.proofs.reader.Reader.+part.Given as goal

abbrev pub decreases-part : goal.decreases-part
decreases-part l = l.levels
