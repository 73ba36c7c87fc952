use Rattle.std.proofs.Common.{rules, tests, ap, ◌∙◌, not}
use Rattle.std.proofs.lemmas.Iterator.Adapters.{YieldsList-from_bytes}
use Rattle.std.proofs.lemmas.Iterator.Search.{all_from_yields_List}
use Rattle.std.specs.Char.{is_ascii_hexdigit}
use Rattle.inspect.proofs.Words.{is_wrong_is}
use Rattle.inspect.proofs.digits.is_wrong.Goals as goal

pub returns : goal.returns
returns c =
    let all = all_from_yields_List is_ascii_hexdigit _ _ c.all.result c.all.ensures.ran (YieldsList-from_bytes c.args.word.now cc) (λ x b q k. search (rules, tests)) in
    ap not all ∙ is_wrong_is c.args.word.now
