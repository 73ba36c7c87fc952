use Rattle.std.proofs.Common.{◌-◌, ◌+◌, [], ◌∷◌, length, ap, sym, ◌∙◌, length-append, arith}
use Rattle.files.specs.Bodies.{kinds_in}
use Rattle.files.specs.Expressions.{check_expression}
use Rattle.files.specs.KindLists.{kinds_list}
use Rattle.files.specs.Statements.{check_values}
use Rattle.files.proofs.Valuing.{prefixed, values_more}
use Rattle.files.proofs.body.Body.check_values.Goals as goal

pub loop-i-preserved : goal.loop-i-preserved
loop-i-preserved c =
    let a = c.args in
    let inv = c.loop-i.invariant in
    let went = c.in_ok-next.ensures in
    let value = λ (p : _). check_expression a.left a.self.now.file.now p (kinds_in a.self.now) in
    record {
      same = inv.same ∙ values_more value a.count c.loop-i._i _ _ c.loop-i-test.true _ went ∙ ap (λ ks. prefixed ks (check_values (a.count - (c.loop-i._i + 1)) value c.in_ok-next.next)) (sym c.push.ensures);
      count = omega (arith, ap length c.push.ensures, length-append (kinds_list c.loop-i.kinds) (c.in_ok-next.kind ∷ []), inv.count);
    }
