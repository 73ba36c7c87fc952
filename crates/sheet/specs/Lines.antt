-- How an operation that was worked out is written.
use Rattle.std.specs.Prelude.{ℕ, List, ◌++◌, codes}
use Rattle.values.specs.declared.row.Row.{Row}
use Rattle.values.specs.Ops.{op_name}
use Rattle.values.specs.Rows.{value_of_row}
use Rattle.values.specs.Texts.{text_of}
use Rattle.sheet.specs.declared.line.Line.{Line}
use Rattle.sheet.specs.declared.line.Line.TheVariants.{Not, Binary}

abbrev pub row_text : Row → List ℕ
row_text r = text_of (value_of_row r)

-- the operation's name, its parts, `=` and the result, with one space between
abbrev pub line_text : Line → List ℕ
line_text (Not a r) = codes "NOT " ++ (row_text a ++ (codes " = " ++ row_text r))
line_text (Binary op a b r) = op_name op ++ (codes " " ++ (row_text a ++ (codes " " ++ (row_text b ++ (codes " = " ++ row_text r)))))
