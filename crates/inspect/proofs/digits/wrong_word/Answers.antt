use Rattle.std.proofs.Common.{rules, tests, ℕ, List, Bor}
use Rattle.std.proofs.lemmas.Iterator.{YieldsList-from_slice}
use Rattle.std.proofs.lemmas.Iterator.Search.{position_from_yields_List}
use Rattle.inspect.specs.Words.{wrong}
use Rattle.inspect.proofs.Words.{named, none_wrong}
use Rattle.inspect.proofs.digits.wrong_word.Goals as goal

pub returns-in-Some : goal.returns-in-Some
returns-in-Some c =
    let found = position_from_yields_List (λ (w : Bor (List ℕ)). wrong w.now) _ _ c.position.result c.position.ensures.ran (YieldsList-from_slice c.args.words.now cc) (λ x b q k. search (rules, tests)) in
    named c.args.words.now c.position.result found _ c.in-Some.i c.in-Some.is

pub returns-in-None : goal.returns-in-None
returns-in-None c =
    let found = position_from_yields_List (λ (w : Bor (List ℕ)). wrong w.now) _ _ c.position.result c.position.ensures.ran (YieldsList-from_slice c.args.words.now cc) (λ x b q k. search (rules, tests)) in
    none_wrong c.args.words.now c.position.result found c.in-None.is
