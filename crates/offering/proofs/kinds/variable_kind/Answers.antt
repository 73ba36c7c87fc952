use Rattle.std.proofs.Common.{map, None, unwrap_or, ap, ◌∙◌}
use Rattle.std.proofs.Math.ListN.{get_or-map}
use Rattle.std.proofs.lemmas.Option.{unwrap_or-slice_get}
use Rattle.values.specs.declared.kind.Kind.TheVariants.{Integer}
use Rattle.values.specs.Values.{integer, kind_of}
use Rattle.processes.specs.Evaluation.{values_of}
use Rattle.offering.proofs.kinds.variable_kind.Goals as goal

pub returns : goal.returns
returns c =
    let vs = values_of c.args.rows.now in
    c.unwrap_or.ensures
    ∙ ap (λ o. unwrap_or o Integer) c.kind_at.ensures
    ∙ unwrap_or-slice_get (map kind_of vs) c.args.variable Integer
    ∙ get_or-map kind_of vs c.args.variable (integer None)
