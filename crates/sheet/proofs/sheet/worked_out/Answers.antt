use Rattle.std.proofs.Common.{◌++◌, sym, ap, ◌∙◌, subst₂}
use Rattle.sheet.specs.Trees.{Stands, lines}
use Rattle.sheet.proofs.Accepts.{reads_expressions, whole_stands}
use Rattle.sheet.proofs.sheet.worked_out.Goals as goal

pub work-requires : goal.work-requires
work-requires c =
    let p = reads_expressions.sound c.args.words.now _ (sym c.in_ok-check_words.ensures) in
    (p.0, subst₂ (λ ws n. Stands ws n p.0) (sym c.new.ensures.words) (sym c.new.ensures.at) (whole_stands p.0 c.args.words.now p.1.words))

pub returns : goal.returns
returns c =
    let p = reads_expressions.sound c.args.words.now _ (sym c.in_ok-check_words.ensures) in
    let w = c.in_ok-value.ensures.worked p.0 (subst₂ (λ ws n. Stands ws n p.0) (sym c.new.ensures.words) (sym c.new.ensures.at) (whole_stands p.0 c.args.words.now p.1.words)) in
    (_, p.0, record { expression = p.1; value = w.value_is; all_lines = w.lines_are ∙ ap (λ l. l ++ lines p.0) c.new-lines.ensures.items })
