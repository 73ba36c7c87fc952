use Rattle.std.proofs.Common.{take, refl}
use Rattle.inspect.proofs.Offering.{stands, over_values, over_stores}
use Rattle.inspect.proofs.fronts.first_front.Goals as goal

pub front_of_places-requires : goal.front_of_places-requires
front_of_places-requires c = (_, _, _, stands _ c.requires.0 c.args.process c.requires.1)

pub returns : goal.returns
returns c =
    let f = c.args.file.now in
    let p = c.args.process in
    let rows = take p.variables p.rows in
    record {
      found = λ d h. over_values f p c.front_of_places.result c.args.number d rows refl h c.front_of_places.ensures.found;
      stores = λ d h. over_stores f p c.front_of_places.result c.args.number d rows refl h c.front_of_places.ensures.stores;
    }
