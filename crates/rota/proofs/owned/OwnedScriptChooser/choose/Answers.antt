use Rattle.std.proofs.Common.{◌≡◌, ℕ, List, Ok, drop, vec_items, sym, ap, ◌∙◌}
use Rattle.choosers.specs.Scripts.{script, script_answer}
use Rattle.rota.proofs.Following.{followed_on}
use Rattle.rota.proofs.owned.OwnedScriptChooser.choose.Goals as goal

pub returns-clause-later : goal.returns-clause-later
returns-clause-later c =
    let ns = vec_items c.args.self.now.numbers in
    let q = c.args.closed.now in
    let left : c.new.result.numbers.now ≡ drop c.args.self.now.followed ns = c.new.ensures.numbers ∙ c.left.ensures in
    let here : script_answer (drop c.args.self.now.followed ns) q ≡ Ok c.in_ok-pick.pick = ap (λ (l : List ℕ). script_answer l q) (sym left) ∙ sym c.choose.ensures.answer ∙ c.in_ok-pick.was in
    ap script (followed_on ns c.args.self.now.followed q _ here)
