use Rattle.std.proofs.Common.{◌≡◌, ℕ, ◌+◌, map, length, get_or, ap, ◌∙◌, subst, arith, length-append}
use Rattle.std.proofs.lemmas.List.{get_or_default}
use lib.ListN.{length-map}
use Rattle.admission.proofs.Deciding.{bytes_from}
use Rattle.processes.specs.Fronts.{Front, process_fronts}
use Rattle.processes.proofs.Ascending.{ascend_short}
use Rattle.records.specs.Lists.{items, Grown}
use Rattle.records.proofs.Filling.{count_more, count_all}
use Rattle.listing.specs.Offers.{offer_of}
use Rattle.steps.specs.Steps as steps
use Rattle.tables.specs.Offered.{seen_offers}
use Rattle.tables.specs.Rows.{no_entry}
use Rattle.tables.specs.Views.{view, process_in}
use Rattle.tables.proofs.Admitted.{good}
use Rattle.tables.proofs.Gathering.{eight, numbered_offers}
use Rattle.tables.proofs.Held.{table_held, table_few}
use Rattle.tables.proofs.offers.put_offers.Goals as goal

pub loop-p-preserved : goal.loop-p-preserved
loop-p-preserved c =
    let f = c.args.file.now in
    let p = c.loop-p.p in
    let one = process_in f c.args.table.now p in
    let fs = process_fronts one.variables one.left in
    let offer : Front → steps.Offer = λ x. record { process = p; variables = one.variables; front = x } in
    let small = bytes_from f (λ i. omega (arith, (c.type_inv.file i).fits)) in
    let g = good f c.args.classes _ _ small (c.requires.sound.each p c.loop-p-test.true) in
    let few = ascend_short 0 8 fs (eight _ _ one.variables one.left g.of_its_class.stands.kept) in
    let e = get_or c.args.table.now.entries p no_entry in
    let at_p : get_or c.args.table.now.entries p c.index-table-p.result ≡ e = get_or_default c.args.table.now.entries p _ no_entry (omega (arith, c.requires.sound.few, c.loop-p-test.true)) in
    let grew : Grown c.loop-p.out c.put_offers_of.new.out (seen_offers p one) =
    subst (λ rows. Grown c.loop-p.out c.put_offers_of.new.out (seen_offers p (view f e rows))) c.rows_of.ensures
    (subst (λ x. Grown c.loop-p.out c.put_offers_of.new.out (seen_offers p (view f x c.rows_of.result.now))) at_p c.put_offers_of.ensures)
    in
    let grown : length (items c.put_offers_of.new.out) ≡ length (items c.loop-p.out) + length (seen_offers p one) = ap length grew.list ∙ length-append (items c.loop-p.out) (seen_offers p one) in (
      count_more (λ q. seen_offers q (process_in f c.args.table.now q)) c.args.count _ p _ _ c.loop-p.invariant.0 c.loop-p-test.true grew,
      omega (arith, c.loop-p.invariant.1, grown, few, length-map fs offer, length-map (map offer fs) offer_of),
    )

pub returns : goal.returns
returns c = record {
  grown =
      let f = c.args.file.now in
      let one : ℕ → _ = process_in f c.args.table.now in
      subst (Grown c.args.out.now c.loop-p.out) (numbered_offers one 0 c.args.count)
      (count_all (λ q. seen_offers q (one q)) c.args.count _ c.loop-p.p _ c.loop-p.invariant.0 c.loop-p-test.false);
  held = let f = c.args.file.now in table_held f c.args.classes (bytes_from f (λ i. omega (arith, (c.type_inv.file i).fits))) c.args.table.now c.args.count c.requires.sound;
  few = let f = c.args.file.now in table_few f c.args.classes (bytes_from f (λ i. omega (arith, (c.type_inv.file i).fits))) c.args.table.now c.args.count c.requires.sound;
  bytes = bytes_from c.args.file.now (λ i. omega (arith, (c.type_inv.file i).fits));
}
