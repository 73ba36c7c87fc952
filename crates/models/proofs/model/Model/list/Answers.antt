use Rattle.std.proofs.Common.{◌≡◌, ◌≤◌, List, [], ◌++◌, map, length, sym, refl, ap, ◌∙◌, subst, arith}
use Rattle.std.specs.List.{AllByRecursion}
use Rattle.std.proofs.lemmas.Bool.{le-leb, lt-leb}
use Rattle.commands.specs.ByteLists.{Bytes}
use Rattle.listing.specs.declared.offer.Offer.{Offer}
use Rattle.listing.specs.Offers.{offer_of, listed, Holdable}
use Rattle.steps.specs.Steps.{offers, offers_from, steps}
use Rattle.steps.proofs.Bound.{steps_fit}
use Rattle.steps.proofs.Laws.{step_laws}
use Rattle.tables.specs.Offered.{SoundTable}
use Rattle.tables.specs.Views.{processes_in}
use Rattle.models.specs.declared.model.Model.{Model}
use Rattle.models.specs.Views.{bytes_of, model_of}
use Rattle.models.proofs.Sounds.{table_sound, lists_steps}
use Rattle.models.proofs.model.Model.list.Goals as goal

-- the steps listed from the offers that were gathered
all-steps : (m : Model) (f : List _) (none all gathered : List Offer)
    → f ≡ bytes_of m → none ≡ [] → gathered ≡ none ++ map offer_of (offers_from 0 (processes_in f m.table m.count)) → all ≡ gathered
    → Bytes f → AllByRecursion Holdable (offers_from 0 (processes_in f m.table m.count))
    → listed m.arrivals.channels all ≡ steps (model_of m)
all-steps m f none all gathered e n g a bs h =
    let now : all ≡ map offer_of (offers (model_of m)) = a ∙ g ∙ (λ i. n i ++ map offer_of (offers_from 0 (processes_in (e i) m.table m.count))) in
    ap (listed m.arrivals.channels) now ∙ lists_steps m (subst Bytes e bs) (subst (λ x. AllByRecursion Holdable (offers_from 0 (processes_in x m.table m.count))) e h)

pub put_offers-requires : goal.put_offers-requires
put_offers-requires c =
    let m = c.args.self.now in
    record {
      sound = subst (λ f. SoundTable f m.classes m.table m.count) (sym c.bytes.ensures) (table_sound m);
      room = omega (arith, ap length c.new-offers.ensures.none, c.new-offers.ensures.room, m.few);
    }

pub put_steps-requires : goal.put_steps-requires
put_steps-requires c =
    let m = c.args.self.now in
    let e = all-steps m _ _ _ _ c.bytes.ensures c.new-offers.ensures.none c.put_offers.ensures.grown.list c.all.ensures c.put_offers.ensures.bytes c.put_offers.ensures.held in
    let few : length (offers (model_of m)) ≤ 64 = subst (λ f. length (offers_from 0 (processes_in f m.table m.count)) ≤ 64) c.bytes.ensures c.put_offers.ensures.few in
    let fit = steps_fit (model_of m).behaviour (offers (model_of m)) few in
    record { fits = omega (arith, ap length e, fit, ap length c.clear.ensures.none, c.clear.ensures.room, c.room.ensures, c.if-room-lt-MOST_STEPS.false) }

pub returns : goal.returns
returns c =
    let m = c.args.self.now in
    let e = all-steps m _ _ _ _ c.bytes.ensures c.new-offers.ensures.none c.put_offers.ensures.grown.list c.all.ensures c.put_offers.ensures.bytes c.put_offers.ensures.held in
    record {
      room = c.put_steps.ensures.same_room ∙ c.clear.ensures.room;
      answer = sym (le-leb 1088 _ (omega (arith, c.room.ensures, c.if-room-lt-MOST_STEPS.false)));
      list = c.put_steps.ensures.list ∙ (λ i. c.clear.ensures.none i ++ e i);
      laws = step_laws;
    }

pub returns-then-room-lt-MOST_STEPS : goal.returns-then-room-lt-MOST_STEPS
returns-then-room-lt-MOST_STEPS c = record { room = refl; answer = sym (lt-leb 1088 _ (omega (arith, c.room.ensures, c.if-room-lt-MOST_STEPS.true))); list = refl; laws = step_laws }
