use Rattle.std.proofs.Common.{arith}
use Rattle.admission.proofs.Deciding.{bytes_from}
use Rattle.tables.proofs.Admitted.{good}
use Rattle.tables.proofs.offers.front_of.Goals as goal

pub front_of_places-requires : goal.front_of_places-requires
front_of_places-requires c =
    let small = bytes_from c.args.file.now (λ i. omega (arith, (c.type_inv.file i).fits)) in
    let g = good c.args.file.now c.args.classes c.args.entry.now c.args.rows.now small c.requires in
    (_, _, _, g.of_its_class.stands)

pub returns : goal.returns
returns c =
    let small = bytes_from c.args.file.now (λ i. omega (arith, (c.type_inv.file i).fits)) in
    let g = good c.args.file.now c.args.classes c.args.entry.now c.args.rows.now small c.requires in
    record {
      front = c.front_of_places.ensures.found _ _ _ g.of_its_class.stands;
      stores = c.front_of_places.ensures.stores _ _ _ g.of_its_class.stands;
      bytes = small;
    }
