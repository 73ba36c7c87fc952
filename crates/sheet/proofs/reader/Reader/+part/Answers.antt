use Rattle.std.proofs.Common.{Err, ap, sym, ◌∙◌, arith}
use Rattle.sheet.proofs.Steps.{through, check_err, check_deep, unfit, value_1, not_1, not_2, binary_1, binary_2, binary_3}
use Rattle.sheet.proofs.reader.Reader.+part.Goals as goal

pub returns-in_err-term-clause-exact : goal.returns-in_err-term-clause-exact
returns-in_err-term-clause-exact t c = through _ _ _ c.from_residual.ensures.1 (check_err _ _ _ _ c.in_err-term.ensures.exact)

pub returns-then-levels-eq0-clause-exact : goal.returns-then-levels-eq0-clause-exact
returns-then-levels-eq0-clause-exact t c = ap (λ x. Err x) c.fault.ensures ∙ check_deep _ _ _ _ _ c.if-levels-eq0.true c.in_ok-term.ensures.exact

pub returns-then-not-is_awaited-clause-exact : goal.returns-then-not-is_awaited-clause-exact
returns-then-not-is_awaited-clause-exact t c =
    ap (λ x. Err x) (c.fault-then-not-is_awaited.ensures) ∙ rw c.part.ensures (unfit _ _ _ _ _ (omega arith) c.in_ok-term.ensures.exact (rw c.kind.ensures at (sym c.is_awaited.ensures ∙ c.if-not-is_awaited.true)))

pub returns-in-Value-clause-exact : goal.returns-in-Value-clause-exact
returns-in-Value-clause-exact t c = value_1 _ _ _ _ _ (omega arith) c.in_ok-term.ensures.exact (rw c.kind.ensures at (sym c.is_awaited.ensures ∙ c.if-not-is_awaited.false)) _ _ c.in-Value.is c.kind-in-Value.ensures

pub returns-in_err-part-in-Not-clause-exact : goal.returns-in_err-part-in-Not-clause-exact
returns-in_err-part-in-Not-clause-exact t c = through _ _ _ c.from_residual-in_err-part-in-Not.ensures.1 (not_1 _ _ _ _ _ (omega arith) c.in_ok-term.ensures.exact (rw c.kind.ensures at (sym c.is_awaited.ensures ∙ c.if-not-is_awaited.false)) c.in-Not.is c.in_err-part-in-Not.ensures.exact)

pub returns-in_ok-part-in-Not-clause-exact : goal.returns-in_ok-part-in-Not-clause-exact
returns-in_ok-part-in-Not-clause-exact t c = not_2 _ _ _ _ _ (omega arith) c.in_ok-term.ensures.exact (rw c.kind.ensures at (sym c.is_awaited.ensures ∙ c.if-not-is_awaited.false)) _ c.in-Not.is c.in_ok-part-in-Not.ensures.exact

pub returns-in_err-first-in-Binary-clause-exact : goal.returns-in_err-first-in-Binary-clause-exact
returns-in_err-first-in-Binary-clause-exact t c = through _ _ _ c.from_residual-in_err-first-in-Binary.ensures.1 (binary_1 _ _ _ _ _ (omega arith) c.in_ok-term.ensures.exact (rw c.kind.ensures at (sym c.is_awaited.ensures ∙ c.if-not-is_awaited.false)) _ _ c.in-Binary.is c.part_kind.ensures c.in_err-first-in-Binary.ensures.exact)

pub returns-in_err-part-in-Binary-clause-exact : goal.returns-in_err-part-in-Binary-clause-exact
returns-in_err-part-in-Binary-clause-exact t c =
    let second = rw c.part-in-Binary.ensures.words at c.in_err-part-in-Binary.ensures.exact in
    through _ _ _ c.from_residual-in_err-part-in-Binary.ensures.1 (binary_2 _ _ _ _ _ (omega arith) c.in_ok-term.ensures.exact (rw c.kind.ensures at (sym c.is_awaited.ensures ∙ c.if-not-is_awaited.false)) _ _ c.in-Binary.is c.part_kind.ensures _ c.in_ok-first-in-Binary.ensures.exact second)

pub returns-in_ok-part-in-Binary-clause-exact : goal.returns-in_ok-part-in-Binary-clause-exact
returns-in_ok-part-in-Binary-clause-exact t c =
    let second = rw c.part-in-Binary.ensures.words at c.in_ok-part-in-Binary.ensures.exact in
    binary_3 _ _ _ _ _ (omega arith) c.in_ok-term.ensures.exact (rw c.kind.ensures at (sym c.is_awaited.ensures ∙ c.if-not-is_awaited.false)) _ _ c.in-Binary.is c.part_kind.ensures _ _ _ c.gives.ensures c.in_ok-first-in-Binary.ensures.exact second
