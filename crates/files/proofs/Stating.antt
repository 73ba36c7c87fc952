-- The check of a statement, one level at a time.
use Rattle.std.proofs.Common.{◌≡◌, ℕ, zero, suc, ◌-◌, ◌<◌, List, drop, None, Err, refl, arith}
use Rattle.values.specs.declared.kind.Kind.{Kind}
use Rattle.commands.specs.Statements.{statement_command}
use Rattle.commands.specs.Trees.{Declaration}
use Rattle.answers.specs.declared.fault.FaultKind.TheVariants.{Command, Depth}
use Rattle.answers.specs.declared.fault.Layer.TheVariants.{Statement}
use Rattle.heads.specs.Checked.{fault, known, ◌>>=◌}
use Rattle.files.specs.Expressions.{check_expression}
use Rattle.files.specs.Statements.{check_statement, statement_parts, few_fronts}

pub unknown : (d : ℕ) (f : List ℕ) (at : ℕ) (ks : List Kind) (ds : List Declaration) → statement_command (drop at f) ≡ None → check_statement d f at ks ds ≡ Err (fault Command at Statement)
unfolding check_statement
unknown zero f at ks ds e = rw e
unknown (suc d) f at ks ds e = rw e

pub too_deep : (d : ℕ) (f : List ℕ) (at : ℕ) (ks : List Kind) (ds : List Declaration) → d ≡ 0 → check_statement d f at ks ds ≡ (known (statement_command (drop at f)) Command at Statement >>= (λ c. Err (fault Depth at Statement)))
unfolding check_statement
too_deep zero f at ks ds h = refl
too_deep (suc d) f at ks ds h = absurd (omega arith)

pub statement_step : (d : ℕ) (f : List ℕ) (at : ℕ) (ks : List Kind) (ds : List Declaration) → 0 < d → check_statement d f at ks ds ≡ (known (statement_command (drop at f)) Command at Statement >>= statement_parts (λ p. check_expression (d - 1) f p ks) (λ p. check_statement (d - 1) f p ks ds) ks ds at >>= few_fronts at)
unfolding check_statement
statement_step zero f at ks ds h = absurd (omega arith)
statement_step (suc d) f at ks ds h = let less : suc d - 1 ≡ d = omega arith in rw less
