use Rattle.std.proofs.Common.{sym, ap, ◌∙◌}
use Rattle.std.proofs.lemmas.List.{map-set}
use Rattle.values.specs.Rows.{value_of_row}
use Rattle.processes.specs.Classes.{after}
use Rattle.processes.specs.Evaluation.{values_of}
use Rattle.processes.specs.Found.{action_of, own_work}
use Rattle.tables.proofs.moving.after_action.Goals as goal

pub returns-in-Store : goal.returns-in-Store
returns-in-Store c =
    ap values_of c.put_row.ensures
    ∙ map-set value_of_row c.args.rows c.in-Store.variable c.in-Store.row
    ∙ ap (λ a. after (own_work (values_of c.args.rows) a) (action_of a) (values_of c.args.got.now)) (sym c.in-Store.is)
