use Rattle.std.proofs.Common.{sym}
use Rattle.choosers.proofs.Seniorities.{end_absent, rotated}
use Rattle.choosers.proofs.seniority.demote.Goals as goal

pub returns-in-Some : goal.returns-in-Some
returns-in-Some c = rotated c.args.order.now c.args.p c.in-Some.i c.rotate_left.new.self (sym c.in-Some.ensures) c.rotate_left.ensures.after

pub returns-in_default : goal.returns-in_default
returns-in_default c = sym (end_absent c.args.order.now c.args.p (sym c.in_default.ensures))
