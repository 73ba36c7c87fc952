use Rattle.std.proofs.Common.{◌≡◌, ◌≤◌, true, length, get_or, Ok, sym, refl, ap, ◌∙◌, subst, arith}
use Rattle.files.specs.Files.{Summary, check_file, levels}
use Rattle.parts.specs.Parts.{behaviour_in}
use Rattle.admission.specs.Read.{tree_in, classes_in}
use Rattle.admission.proofs.Deciding.{bytes_from}
use Rattle.arrivals.specs.Climbing.{arrival_table}
use Rattle.tables.specs.Rows.{no_entry, rows_of}
use Rattle.tables.specs.Views.{processes_in, sound_entry}
use Rattle.models.specs.Sound.{found}
use Rattle.models.proofs.Starting.{reads, behaviour_there, few, starts, start_is, found_self}
use Rattle.models.proofs.model.Model.start.Goals as goal

pub invariant_of-result : goal.invariant_of-result
invariant_of-result c =
    let f = c.args.file.now in
    let bs = bytes_from f (λ i. omega (arith, (c.type_inv.file i).fits)) in
    let u = c.in_ok-summary.summary in
    let s : Summary = (u.classes, u.behaviour, u.processes) in
    let h : check_file f ≡ Ok s = sym c.in_ok-summary.ensures.exact in
    let same = c.copied.ensures in
    let short : length f ≤ 4096 = subst (λ x. length x ≤ 4096) (reads f s bs h).bytes (reads f s bs h).conditions.short in
    let table = c.fresh_table-table.result in
    let ft = c.fresh_table-table.ensures s h refl refl in
    record {
      short = short;
      few = few f s bs h;
      admitted = λ _. subst (λ g. found (check_file g) s ≡ true) (sym same) (ap (λ r. found r s) h ∙ found_self s);
      travels = λ _. subst (λ g. c.of-arrivals.result.channels ≡ arrival_table (behaviour_in levels g u.behaviour)) (sym same) (c.of-arrivals.ensures (tree_in f s).behaviour (behaviour_there f s bs h));
      kept = λ p l. subst (λ g. sound_entry g u.classes (get_or table.entries p no_entry) (rows_of table p) ≡ true) (sym same) (ft.each p l).sound;
    }

pub returns : goal.returns
returns c =
    let f = c.args.file.now in
    let bs = bytes_from f (λ i. omega (arith, (c.type_inv.file i).fits)) in
    let u = c.in_ok-summary.summary in
    let s : Summary = (u.classes, u.behaviour, u.processes) in
    let h : check_file f ≡ Ok s = sym c.in_ok-summary.ensures.exact in
    let same = c.copied.ensures in
    let table = c.fresh_table-table.result in
    let all = ap (λ g. processes_in g table u.processes) same ∙ starts f s bs h table (c.fresh_table-table.ensures s h refl refl) in
    (λ i. Ok (record { classes = classes_in u.classes (same i) 4; behaviour = behaviour_in levels (same i) u.behaviour; processes = all i })) ∙ sym (start_is f s h)
