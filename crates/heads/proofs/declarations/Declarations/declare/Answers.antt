use Rattle.std.proofs.Common.{rules, tests, ◌≡◌, ◌+◌, ◌-◌, ◌*◌, drop, ap, ◌∙◌, arith}
use Rattle.std.proofs.lemmas.Iterator.{YieldsList-from_range}
use Rattle.std.proofs.lemmas.Iterator.Search.{any_from_yields_List}
use Rattle.heads.specs.Exchanges.{exchange_of, same_declaration, declared}
use Rattle.heads.specs.Heads.{declaration_at, declarations_at}
use Rattle.heads.proofs.Declaring.{declared_along}
use Rattle.heads.proofs.declarations.Declarations.declare.Goals as goal

pub returns : goal.returns
returns c =
    let a = c.args in
    let d = exchange_of a.exchange.now in
    let all : a.self.count - 0 ≡ a.self.count = omega arith in
    let start : a.self.at + 8 * 0 ≡ a.self.at = omega arith in
    any_from_yields_List (λ i. same_declaration d (declaration_at (drop (a.self.at + 8 * i) a.file.now) 0)) _ _ _ c.any.ensures.ran
    (YieldsList-from_range 0 a.self.count a.self.count (cc) all)
    (λ x b q k. search (rules, tests))
    ∙ declared_along d a.self.count a.file.now a.self.at 0 ∙ ap (λ m. declared d (declarations_at a.self.count a.file.now m)) start
