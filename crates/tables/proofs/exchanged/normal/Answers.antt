use Rattle.std.proofs.Common.{◌≡◌, ◌≤◌, [], ◌∷◌, length, take, ◌∙◌, arith}
use lib.ListN.{length-map}
use Rattle.values.specs.Rows.{value_of_row}
use Rattle.processes.specs.Evaluation.{values_of}
use Rattle.tables.proofs.Normal.{four_rows}
use Rattle.tables.proofs.exchanged.normal.Goals as goal

pub returns : goal.returns
returns c few =
    let rows = c.args.rows.now in
    let n : length rows ≡ length (values_of rows) = omega (arith, length-map rows value_of_row) in
    let short : length (values_of rows) ≤ 4 = omega (arith, length-map rows value_of_row, few) in
    c.first.ensures
    ∙ (λ i. take (n i) (c.normal_row.ensures i ∷ c.normal_row-2.ensures i ∷ c.normal_row-3.ensures i ∷ c.normal_row-4.ensures i ∷ [])) ∙ four_rows (values_of rows) short
