use Rattle.std.proofs.Common.{is_ok, length, vec_items, sym, ap, ◌∙◌, subst₂, arith}
use Rattle.std.proofs.ResultArms.{chosen}
use Rattle.values.specs.Rows.{row_of}
use Rattle.sheet.proofs.Nodes.{root, stands_value, stands_not, stands_binary, value_worked, not_worked, binary_worked}
use Rattle.sheet.specs.Trees.{Stands}
use Rattle.sheet.proofs.reader.Reader.+work.Goals as goal

pub known_term-term-requires : goal.known_term-term-requires
known_term-term-requires t c = root _ _ c.requires.0 c.requires.1

pub work-requires : goal.work-requires
work-requires t c =
    let p = stands_not _ _ c.in-Not.ensures.exact c.requires.0 c.requires.1 in
    (omega (arith, c.decreases, c.known_term-term.ensures.inside), (p.0, p.2))

pub work-requires-in-Binary : goal.work-requires-in-Binary
work-requires-in-Binary t c =
    let p = stands_binary _ _ _ c.in-Binary.ensures.exact c.requires.0 c.requires.1 in
    (omega (arith, c.decreases, c.known_term-term.ensures.inside), (p.0, p.3))

pub work-requires-in-Binary-2 : goal.work-requires-in-Binary-2
work-requires-in-Binary-2 t c =
    let p = stands_binary _ _ _ c.in-Binary.ensures.exact c.requires.0 c.requires.1 in
    let e = c.in_ok-first-in-Binary.ensures in
    let w = e.worked p.0 p.3 in
    (omega (arith, c.decreases, c.known_term-term.ensures.inside, w.end_is, ap length e.words), (p.1, subst₂ (λ ws n. Stands ws n p.1) (sym e.words) (sym w.end_is) p.4))

pub returns-in-Value-clause-worked : goal.returns-in-Value-clause-worked
returns-in-Value-clause-worked t c u s =
    value_worked u c.in-Value.row _ _ _ (stands_value _ _ _ c.in-Value.ensures.exact u s) (c.from.ensures.0 ∙ ap row_of c.value.ensures.exact)

pub returns-in_ok-push-in-Not-clause-worked : goal.returns-in_ok-push-in-Not-clause-worked
returns-in_ok-push-in-Not-clause-worked t c u s =
    let p = stands_not _ _ c.in-Not.ensures.exact u s in
    not_worked u p.0 _ _ c.in_ok-part-in-Not.part _ _ (vec_items c.work.new.lines) _ p.1 (c.in_ok-part-in-Not.ensures.worked p.0 p.2) c.negated-result.ensures
    (chosen _ _ _ _ c.push.ensures.items (ap is_ok c.in_ok-push-in-Not.was))

pub returns-in_ok-push-in-Binary-clause-worked : goal.returns-in_ok-push-in-Binary-clause-worked
returns-in_ok-push-in-Binary-clause-worked t c u s =
    let p = stands_binary _ _ _ c.in-Binary.ensures.exact u s in
    let e = c.in_ok-first-in-Binary.ensures in
    let w = e.worked p.0 p.3 in
    let v = c.in_ok-second-in-Binary.ensures.worked p.1 (subst₂ (λ ws n. Stands ws n p.1) (sym e.words) (sym w.end_is) p.4) in
    binary_worked u c.in-Binary.op p.0 p.1 _ _ _ _ _ _ _ _ _ _ p.2 w v c.applied-result.ensures
    (chosen _ _ _ _ c.push-in-Binary.ensures.items (ap is_ok c.in_ok-push-in-Binary.was))
