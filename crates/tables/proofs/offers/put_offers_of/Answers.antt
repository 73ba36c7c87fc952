use Rattle.std.proofs.Common.{◌∷◌, map, sym, refl, ◌∙◌, subst, append-nil, arith}
use Rattle.admission.proofs.Deciding.{bytes_from}
use Rattle.files.specs.Files.{levels}
use Rattle.parts.specs.Parts.{stmt_in}
use Rattle.processes.specs.Fronts.{Front, process_fronts}
use Rattle.processes.proofs.Kept.{few_fronts}
use Rattle.processes.proofs.Statements.{standing_ready}
use Rattle.records.specs.Lists.{items, Grown}
use Rattle.listing.specs.Offers.{offer_of}
use Rattle.offering.proofs.Kinding.{map_map}
use Rattle.offering.proofs.Walking.{seen_behind}
use Rattle.steps.specs.Steps as steps
use Rattle.tables.specs.Views.{view}
use Rattle.tables.proofs.Admitted.{good}
use Rattle.tables.proofs.offers.put_offers_of.Goals as goal

pub put_fronts-next-requires : goal.put_fronts-next-requires
put_fronts-next-requires c =
    let f = c.args.file.now in
    let small = bytes_from f (λ i. omega (arith, (c.type_inv.file i).fits)) in
    let g = good f c.args.classes c.args.entry.now c.args.rows.now small c.requires.sound in
    let r = standing_ready f _ _ _ c.in-Some.at c.in-Some._rest _ g.of_its_class.stands c.in-Some.ensures in
    let k = r.3.kept in
    let few = few_fronts k.0 k.1 r.0 k.2 in
    (r.0, record { here = r.3.here; kept = k; few = omega (arith, few); room = omega (arith, few, c.requires.room) })

pub returns-in-Some : goal.returns-in-Some
returns-in-Some c =
    let f = c.args.file.now in
    let p = c.args.process in
    let small = bytes_from f (λ i. omega (arith, (c.type_inv.file i).fits)) in
    let g = good f c.args.classes c.args.entry.now c.args.rows.now small c.requires.sound in
    let r = standing_ready f _ _ _ c.in-Some.at c.in-Some._rest _ g.of_its_class.stands c.in-Some.ensures in
    let vs = (view f c.args.entry.now c.args.rows.now).variables in
    let offer : Front → steps.Offer = λ x. record { process = p; variables = vs; front = x } in
    subst (λ ss. Grown c.args.out.now c.put_fronts-next.new.out (map offer_of (map offer (process_fronts vs ss)))) (sym r.2)
    (subst (Grown c.args.out.now c.put_fronts-next.new.out) (sym (map_map offer_of offer (process_fronts vs (r.0 ∷ r.1)) ∙ seen_behind p 0 vs r.0 r.1)) (c.put_fronts-next.ensures.offers r.0 r.3.here))

pub returns-in_default : goal.returns-in_default
returns-in_default c =
    let f = c.args.file.now in
    let p = c.args.process in
    let vs = (view f c.args.entry.now c.args.rows.now).variables in
    let offer : Front → steps.Offer = λ x. record { process = p; variables = vs; front = x } in
    subst (λ ps. Grown c.args.out.now c.args.out.now (map offer_of (map offer (process_fronts vs (map (λ q. stmt_in levels f q) ps))))) c.in_default.ensures
    (record { list = sym (append-nil (items c.args.out.now)); same_room = refl })
