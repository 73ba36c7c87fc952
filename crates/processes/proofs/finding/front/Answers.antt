use Rattle.std.proofs.Common.{map}
use Rattle.values.specs.Values.{kind_of}
use Rattle.processes.proofs.Kept.{process_stands}
use Rattle.processes.proofs.finding.front.Goals as goal

pub front_of_places-requires : goal.front_of_places-requires
front_of_places-requires c =
    let d = c.requires.0 in
    (map kind_of d.variables, d.declarations, c.requires.1, process_stands _ _ _ d _ c.requires.2)

pub returns : goal.returns
returns c = record {
  found = λ d ss h. c.front_of_places.ensures.found (map kind_of d.variables) d.declarations ss (process_stands _ _ _ d ss h);
  stores = λ d ss h. c.front_of_places.ensures.stores (map kind_of d.variables) d.declarations ss (process_stands _ _ _ d ss h);
}
