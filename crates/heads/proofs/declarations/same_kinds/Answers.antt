use Rattle.std.proofs.Common.{rules, tests, ℕ, ◌+◌, length, ne_eqb, sym, ◌∙◌}
use Rattle.std.proofs.lemmas.Iterator.{YieldsList-from_slice}
use Rattle.std.proofs.lemmas.Iterator.Consumers.{YieldsList-from_enumerate}
use Rattle.std.proofs.lemmas.Iterator.Search.{all_from_yields_List}
use Rattle.values.specs.declared.kind.Kind.{Kind}
use Rattle.values.specs.Kinds.{same_kind}
use Rattle.heads.specs.Heads.{byte, kind_at}
use Rattle.heads.proofs.Declaring.{other_length, kinds_along}
use Rattle.heads.proofs.declarations.same_kinds.Goals as goal

pub returns-then-kinds-byte_at : goal.returns-then-kinds-byte_at
returns-then-kinds-byte_at c =
    let a = c.args in
    all_from_yields_List (λ (p : ℕ × Kind). same_kind p.1 (kind_at a.bytes.now (4 + p.0))) _ _ _ c.all.ensures.ran
    (YieldsList-from_enumerate (YieldsList-from_slice a.kinds.now cc) (cc))
    (λ x b q k. search (rules, tests))
    ∙ kinds_along a.kinds.now (byte a.bytes.now 3) a.bytes.now 4 0 (c.if-kinds-byte_at.true ∙ c.byte_at.ensures)

pub returns-else-kinds-byte_at : goal.returns-else-kinds-byte_at
returns-else-kinds-byte_at c =
    let a = c.args in
    ne_eqb (length a.kinds.now) c.byte_at.result c.if-kinds-byte_at.false ∙ other_length a.kinds.now (byte a.bytes.now 3) a.bytes.now 4 (λ e. c.if-kinds-byte_at.false (e ∙ sym c.byte_at.ensures))
