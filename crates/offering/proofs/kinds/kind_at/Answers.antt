use Rattle.std.proofs.Common.{Some, sym, ap, ◌∙◌}
use Rattle.std.specs.List.{slice_get}
use Rattle.values.specs.Rows.{value_of_row}
use Rattle.values.specs.Values.{kind_of}
use Rattle.offering.proofs.Kinding.{at_index, map_map}
use Rattle.offering.proofs.kinds.kind_at.Goals as goal

pub returns : goal.returns
returns c =
    let rows = c.args.rows.now in
    let found = c.in_ok-row.ensures.lookup in
    ap (λ k. Some k) (c.kind.ensures ∙ ap kind_of c.value.ensures.exact)
    ∙ at_index (λ r. kind_of (value_of_row r)) rows c.args.i c.in_ok-row.row.now found.3.0 found.1
    ∙ ap (λ ks. slice_get ks c.args.i) (sym (map_map kind_of value_of_row rows))
