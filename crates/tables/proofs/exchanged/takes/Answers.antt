use Rattle.std.proofs.Common.{◌<◌, ◌≤◌, map, length, refl, sym, ◌∙◌, arith}
use lib.ListN.{length-map}
use Rattle.std.proofs.lemmas.Bool.{leb-true, lt-leb}
use Rattle.values.specs.Rows.{value_of_row}
use Rattle.values.specs.Values.{kind_of}
use Rattle.processes.specs.Evaluation.{values_of}
use Rattle.processes.specs.Found.{action_of}
use Rattle.listing.specs.Offers.{alike}
use Rattle.listing.proofs.Alike.{alike_is}
use Rattle.listing.proofs.Seen.{kinds_alike}
use Rattle.tables.specs.Exchanging.{wanted_by}
use Rattle.tables.proofs.Normal.{longer_differs}
use Rattle.tables.proofs.exchanged.takes.Goals as goal

pub returns-then-values-le4 : goal.returns-then-values-le4
returns-then-values-le4 c =
    let ks = wanted_by (values_of c.args.rows.now) (action_of c.args.action.now) in
    let vs = values_of c.args.values.now in
    let few : length (map kind_of vs) ≤ 4 = omega (arith, length-map vs kind_of, length-map c.args.values.now value_of_row, c.if-values-le4.true) in
    record {
      exact =
          c.eq.ensures
          ∙ alike_is _ refl refl refl refl c.wanted_kinds-wanted.result c.kinds_of.result
          ∙ (λ i. alike (c.wanted_kinds-wanted.ensures.are i) (c.kinds_of.ensures i))
          ∙ kinds_alike 4 ks (map kind_of vs) c.wanted_kinds-wanted.ensures.few few;
      short = λ _. c.if-values-le4.true;
    }

pub returns-else-values-le4 : goal.returns-else-values-le4
returns-else-values-le4 c =
    let ks = wanted_by (values_of c.args.rows.now) (action_of c.args.action.now) in
    let vs = values_of c.args.values.now in
    let n = length c.args.values.now in
    let long : length ks < length (map kind_of vs) = omega (arith, length-map vs kind_of, length-map c.args.values.now value_of_row, c.if-values-le4.false, c.wanted_kinds-wanted.ensures.few) in
    record { exact = lt-leb n 4 c.if-values-le4.false ∙ sym (longer_differs ks (map kind_of vs) long); short = λ h. leb-true n 4 h }
