use Rattle.std.proofs.Common.{sym, ap, ◌∙◌, ne_eqb}
use Rattle.arrivals.specs.Bytes.{channel_of}
use Rattle.arrivals.proofs.ByteForms.{none_form}
use Rattle.arrivals.proofs.table.channel_of.Goals as goal

pub returns-then-byte-eq-NONE : goal.returns-then-byte-eq-NONE
returns-then-byte-eq-NONE c = sym (ap channel_of c.if-byte-eq-NONE.true ∙ none_form)

pub returns-else-byte-eq-NONE : goal.returns-else-byte-eq-NONE
unfolding channel_of
returns-else-byte-eq-NONE c = sym (rw (ne_eqb c.args.byte 255 c.if-byte-eq-NONE.false))
