use Rattle.std.proofs.Common.{◌≡◌, ℕ, List, get_or, None, Option, sym, subst, arith}
use Rattle.std.proofs.lemmas.List.{get_or_default}
use Rattle.commands.specs.ByteLists.{Bytes}
use Rattle.processes.specs.declared.front.Front.{Front as FrontC}
use Rattle.processes.specs.Found.{Answers}
use Rattle.processes.specs.Stores.{process_stores}
use Rattle.processes.proofs.Stores.{Storing}
use Rattle.steps.specs.Models.{Process}
use Rattle.steps.specs.Taking.{offered_front}
use Rattle.tables.specs.Offered.{SoundProcess}
use Rattle.tables.specs.Rows.{no_entry, rows_of}
use Rattle.tables.specs.Views.{view}
use Rattle.models.specs.Views.{bytes_of}
use Rattle.models.proofs.Sounds.{table_sound}
use Rattle.models.proofs.Numbering.{process_there, process_absent}
use Rattle.models.proofs.model.Model.front.Goals as goal

-- the front of a number of a process, and what it stores
abbrev Both : ℕ → Option FrontC → List ℕ → Process → Type 0
Both n r f one = Answers f one.variables r (offered_front one n) × Storing r (process_stores one.variables one.left n)

pub returns-then-p-self : goal.returns-then-p-self
returns-then-p-self c =
    let m = c.args.self.now in
    let none = subst (λ one. Answers (bytes_of m) one.variables None (offered_front one c.args.number)) (sym (process_absent m c.args.p c.if-p-self.true)) tt in
    record { front = none; stores = tt; bytes = λ h. absurd (omega (arith, c.if-p-self.true, h)) }

pub front_of-requires : goal.front_of-requires
front_of-requires c =
    let m = c.args.self.now in
    let e = get_or m.table.entries c.args.p no_entry in
    let at_p : get_or m.table.entries c.args.p c.index-table-p.result ≡ e = get_or_default m.table.entries c.args.p _ no_entry (omega (arith, m.few, c.if-p-self.false)) in
    subst (λ x. SoundProcess c.bytes.result.now m.classes x c.rows_of.result.now) (sym at_p)
    (subst (λ rows. SoundProcess c.bytes.result.now m.classes e rows) (sym c.rows_of.ensures)
    (subst (λ f. SoundProcess f m.classes e (rows_of m.table c.args.p)) (sym c.bytes.ensures) ((table_sound m).each c.args.p c.if-p-self.false)))

pub returns : goal.returns
returns c =
    let m = c.args.self.now in
    let e = get_or m.table.entries c.args.p no_entry in
    let there = process_there m c.args.p c.if-p-self.false in
    let at_p : get_or m.table.entries c.args.p c.index-table-p.result ≡ e = get_or_default m.table.entries c.args.p _ no_entry (omega (arith, m.few, c.if-p-self.false)) in
    let entry = subst (λ x. Both c.args.number c.front_of.result c.bytes.result.now (view c.bytes.result.now x c.rows_of.result.now)) at_p (c.front_of.ensures.front, c.front_of.ensures.stores) in
    let rows = subst (λ rows. Both c.args.number c.front_of.result c.bytes.result.now (view c.bytes.result.now e rows)) c.rows_of.ensures entry in
    let file = subst (λ f. Both c.args.number c.front_of.result f (view f e (rows_of m.table c.args.p))) c.bytes.ensures rows in
    let both = subst (Both c.args.number c.front_of.result (bytes_of m)) (sym there) file in
    record { front = both.0; stores = both.1; bytes = λ _. subst Bytes c.bytes.ensures c.front_of.ensures.bytes }
