use Rattle.std.proofs.Common.{◌≡◌, true, Ok, sym, ap, ◌∙◌, subst, w32, SFits}
use Rattle.std.proofs.lemmas.Int.{to_z-of_z}
use Rattle.values.specs.Texts.{is_numeral}
use Rattle.values.proofs.Texts.{read_ok, read_out, numeral_tells}
use Rattle.values.proofs.value.texts.read_signed.Goals as goal

pub returns-in-Ok : goal.returns-in-Ok
returns-in-Ok c =
    let h = c.in-Ok.ensures.value.0 in
    ap Ok (to_z-of_z w32 c.in-Ok.number (subst (SFits w32) (sym h.1) h.0.1) ∙ h.1) ∙ sym (read_ok c.args.text.now h.0.0 h.0.1)

pub returns-in-Err : goal.returns-in-Err
returns-in-Err c =
    let bs = c.args.text.now in
    let numeral : is_numeral bs ≡ true = ap is_numeral (sym c.as_bytes.ensures.value) ∙ sym c.if-is_numeral.ensures in
    sym (read_out bs numeral (λ fits. c.in-Err.ensures.value.0 ((numeral_tells bs).0 numeral, fits)))
