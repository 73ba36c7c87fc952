use Rattle.std.proofs.Common.{◌≡◌, slice_index, Some, None, sym, ◌∙◌, rules}
use Rattle.records.specs.Steps.{has}
use Rattle.choosers.specs.Firsts.{first}
use Rattle.choosers.specs.FirstsLemmas.{found_first}
use Rattle.choosers.proofs.Seniorities.{senior_here, senior_more}
use Rattle.choosers.proofs.seniority.frontmost.Goals as goal

pub returns-in-Some : goal.returns-in-Some
returns-in-Some c =
    let q = c.args.closed.now in
    let p = slice_index c.args.order.now c.loop-p.p-index in
    let f : first (has p) q ≡ Some c.in-Some.i = sym (c.in-Some.ensures (has p) (λ s b r. search rules)) in
    record {
      below = (found_first (has p) q c.in-Some.i f).0;
      answer = sym (c.loop-p.invariant ∙ senior_here c.args.order.now q c.loop-p.p-index c.in-Some.i c.loop-p-test.true f);
    }

pub loop-p-preserved : goal.loop-p-preserved
loop-p-preserved c =
    let q = c.args.closed.now in
    let p = slice_index c.args.order.now c.loop-p.p-index in
    let f : first (has p) q ≡ None = sym (c.in_default.ensures (has p) (λ s b r. search rules)) in
    c.loop-p.invariant ∙ senior_more c.args.order.now q c.loop-p.p-index c.loop-p-test.true f
