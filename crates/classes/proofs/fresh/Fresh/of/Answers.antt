use Rattle.std.proofs.Common.{arith}
use Rattle.admission.proofs.Deciding.{bytes_from}
use Rattle.classes.proofs.Heading.{variables_many}
use Rattle.classes.proofs.Starting.{fresh_made}
use Rattle.classes.proofs.Walking.{class_kept, file_short}
use Rattle.classes.proofs.fresh.Fresh.of.Goals as goal

pub start_rows-requires : goal.start_rows-requires
start_rows-requires c =
    let f = c.args.file.now in
    let d = c.requires.0 in
    let s = c.scope_of.ensures d c.requires.1 in
    let kept = class_kept f _ d (bytes_from f (λ i. omega (arith, (c.type_inv.file i).fits))) c.requires.1 in
    (omega (arith, variables_many _ _ d s, kept.variables_few), s.within.variables_within)

pub returns : goal.returns
returns c d h =
    let f = c.args.file.now in
    let small = bytes_from f (λ i. omega (arith, (c.type_inv.file i).fits)) in
    fresh_made f c.scope_of.result d c.start_rows.result c.new.result c.with.result c.statement_of.result (file_short f _ d small h) (class_kept f _ d small h) (c.scope_of.ensures d h) c.start_rows.ensures c.new.ensures c.with.ensures (c.statement_of.ensures d h)
