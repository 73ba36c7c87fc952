use Rattle.std.proofs.Common.{◌≡◌, ◌++◌, ◌∷◌, [], ◌-◌, cond, length, refl, sym, ap, ◌∙◌, subst, arith}
use Rattle.std.specs.Prelude.{is_ok}
use Rattle.records.specs.Lists.{items, room_of}
use Rattle.engine.specs.History.{new}
use Rattle.engine.specs.Promises.{ServesEveryone}
use Rattle.engine.specs.Views.{world}
use Rattle.engine.proofs.Kept.{none_kept}
use Rattle.engine.proofs.Serving.{fair_choosers_serve}
use Rattle.calling.specs.Called.{played}
use Rattle.calling.proofs.Histories.{begins, stands_step, same_rooms, all_declared, all_rest, freed}
use Rattle.calling.proofs.performing.perform_all.Goals as goal

pub loop-call-preserved : goal.loop-call-preserved
loop-call-preserved g c =
    let e = c.perform-answer.ensures in
    let free = ap (λ n. n - length (items c.perform-answer.new.journal.list)) e.journal_room ∙ freed (room_of c.loop-call.journal.list) (items c.loop-call.journal.list) _ _ e.journal in
    let old = items c.loop-call.answers in
    let told = c.append-kept.ensures.list ∙ ap (λ a. cond (is_ok c.append-kept.result) (old ++ a ∷ []) old) e.answer in
    let went = same_rooms _ _ _ _ _ _ _ _ _ _ _ _ _ _ _ c.loop-call.invariant.table_room c.loop-call.invariant.answers_room
    (record { frees = free; leaves = e.leaves; enters = e.journal; fits = is_ok c.append-kept.result; fits_is = c.append-kept.ensures.fits; tells = told; lists = e.table }) in
    record {
      stands = stands_step _ _ _ _ _ _ _ _ _ _ _ _ _ _ _ _ c.loop-call.invariant.stands (omega arith) went;
      journal_room = e.journal_room ∙ c.loop-call.invariant.journal_room;
      table_room = e.table_room ∙ c.loop-call.invariant.table_room;
      answers_room = c.append-kept.ensures.room ∙ c.loop-call.invariant.answers_room;
    }

pub loop-call-init : goal.loop-call-init
loop-call-init g c =
    let chooser = g.C.Chooser.meaning c.args.chooser.now in
    let w : world c.new-engine.result chooser ≡ new chooser = (λ i. record { model = c.new-engine.ensures.model i; chooser = chooser }) in
    record {
      stands = begins _ _ _ _ _ _ _ _ _ w;
      journal_room = refl;
      table_room = refl;
      answers_room = refl;
    }

pub returns-clause-declared : goal.returns-clause-declared
returns-clause-declared g c = all_declared _ _ none_kept

pub returns-clause-rest : goal.returns-clause-rest
returns-clause-rest g c = all_rest _ _ none_kept

pub returns-clause-served : goal.returns-clause-served
returns-clause-served g c =
    let x = c.args.chooser.now in
    let laws = g.met.C.FairChooser in
    subst (ServesEveryone (g.C.FairChooser.bound x)) (sym (laws.never_declines x)) (fair_choosers_serve (g.C.FairChooser.bound x) (g.C.FairChooser.picks x) (g.C.FairChooser.waits x) (laws.fair x))
    (played c.args.calls.now (g.C.Chooser.meaning x) c.args.table.now c.args.journal.now)
