use Rattle.std.proofs.Common.{◌≡◌, ℕ, Bool, cond, List, [], map, get_or, sym, ap, ◌∙◌, arith}
use Rattle.std.proofs.lemmas.List.{get_or_default}
use Rattle.std.proofs.lemmas.Bool.{lt-ltb}
use Rattle.files.specs.Files.{levels}
use Rattle.parts.specs.Parts.{stmt_in}
use Rattle.processes.specs.Places.{places_of}
use Rattle.steps.specs.Models.{Process}
use Rattle.tables.specs.declared.table.Entry.{Entry}
use Rattle.tables.specs.Rows.{no_entry}
use Rattle.tables.specs.Views.{left_in}
use Rattle.models.specs.Views.{bytes_of}
use Rattle.models.proofs.Numbering.{process_there, process_absent}
use Rattle.models.proofs.model.Model.left.Goals as goal

pub returns-then-p-self-clause-stand : goal.returns-then-p-self-clause-stand
returns-then-p-self-clause-stand c =
    let m = c.args.self.now in
    ap (λ (ps : List ℕ). map (λ q. stmt_in levels (bytes_of m) q) ps) c.new.ensures ∙ sym (ap (λ (one : Process). one.left) (process_absent m c.args.p c.if-p-self.true))

pub returns : goal.returns
returns c =
    let m = c.args.self.now in
    let at_p : get_or m.table.entries c.args.p c.index-table-p.result ≡ get_or m.table.entries c.args.p no_entry = get_or_default m.table.entries c.args.p _ no_entry (omega (arith, m.few, c.if-p-self.false)) in
    let e = get_or m.table.entries c.args.p no_entry in
    record {
      places = ap (λ (e : Entry). places_of e.left) at_p ∙ sym (ap (λ (b : Bool). cond b (places_of e.left) []) (lt-ltb c.args.p m.count c.if-p-self.false));
      stand = ap (λ (e : Entry). left_in (bytes_of m) e.left) at_p ∙ sym (ap (λ (one : Process). one.left) (process_there m c.args.p c.if-p-self.false));
    }
