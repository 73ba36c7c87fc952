use Rattle.parts.proofs.Reading.{expr_reads, exprs_reads, stmt_reads, behaviour_reads}
use Rattle.parts.proofs.facts.laws.Goals as goal

pub returns : goal.returns
returns c = record { expr_read = expr_reads; exprs_read = exprs_reads; stmt_read = stmt_reads; behaviour_read = behaviour_reads }
