-- The check of an expression, one level at a time.
use Rattle.std.proofs.Common.{◌≡◌, ℕ, zero, suc, ◌-◌, ◌<◌, List, drop, None, Err, refl, arith}
use Rattle.values.specs.declared.kind.Kind.{Kind}
use Rattle.commands.specs.Expressions.{expression_command}
use Rattle.answers.specs.declared.fault.FaultKind.TheVariants.{Command, Depth}
use Rattle.answers.specs.declared.fault.Layer.TheVariants.{Expression}
use Rattle.heads.specs.Checked.{fault, known, ◌>>=◌}
use Rattle.files.specs.Expressions.{check_expression, expression_parts}

pub unknown : (d : ℕ) (f : List ℕ) (at : ℕ) (ks : List Kind) → expression_command (drop at f) ≡ None → check_expression d f at ks ≡ Err (fault Command at Expression)
unfolding check_expression
unknown zero f at ks e = rw e
unknown (suc d) f at ks e = rw e

pub too_deep : (d : ℕ) (f : List ℕ) (at : ℕ) (ks : List Kind) → d ≡ 0 → check_expression d f at ks ≡ (known (expression_command (drop at f)) Command at Expression >>= (λ c. Err (fault Depth at Expression)))
unfolding check_expression
too_deep zero f at ks h = refl
too_deep (suc d) f at ks h = absurd (omega arith)

pub expression_step : (d : ℕ) (f : List ℕ) (at : ℕ) (ks : List Kind) → 0 < d → check_expression d f at ks ≡ (known (expression_command (drop at f)) Command at Expression >>= expression_parts (λ p. check_expression (d - 1) f p ks) ks at)
unfolding check_expression
expression_step zero f at ks h = absurd (omega arith)
expression_step (suc d) f at ks h = let less : suc d - 1 ≡ d = omega arith in rw less
