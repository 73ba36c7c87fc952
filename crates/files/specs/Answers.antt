-- How the summary of a file is written.
use Rattle.std.specs.Prelude.{ℕ, List, ◌++◌, codes}
use Rattle.std.specs.Fmt.{decimal}
use Rattle.files.specs.declared.file.Summary.{Summary}

abbrev pub summary_text : Summary → List ℕ
summary_text s = codes "admitted classes " ++ (decimal s.classes ++ (codes " processes " ++ decimal s.processes))
