-- The check of a behaviour, one level at a time.
use Rattle.std.proofs.Common.{◌≡◌, ℕ, zero, suc, ◌-◌, ◌<◌, List, drop, None, Err, refl, arith}
use Rattle.commands.specs.Behaviours.{behaviour_command}
use Rattle.answers.specs.declared.fault.FaultKind.TheVariants.{Command, Depth}
use Rattle.answers.specs.declared.fault.Layer.TheVariants.{Behaviour}
use Rattle.heads.specs.Checked.{fault, known, ◌>>=◌}
use Rattle.files.specs.Behaviours.{check_behaviour, behaviour_parts}

pub unknown : (d : ℕ) (f : List ℕ) (classes at procs : ℕ) → behaviour_command (drop at f) ≡ None → check_behaviour d f classes at procs ≡ Err (fault Command at Behaviour)
unfolding check_behaviour
unknown zero f classes at procs e = rw e
unknown (suc d) f classes at procs e = rw e

pub too_deep : (d : ℕ) (f : List ℕ) (classes at procs : ℕ) → d ≡ 0 → check_behaviour d f classes at procs ≡ (known (behaviour_command (drop at f)) Command at Behaviour >>= (λ c. Err (fault Depth at Behaviour)))
unfolding check_behaviour
too_deep zero f classes at procs h = refl
too_deep (suc d) f classes at procs h = absurd (omega arith)

pub behaviour_step : (d : ℕ) (f : List ℕ) (classes at procs : ℕ) → 0 < d → check_behaviour d f classes at procs ≡ (known (behaviour_command (drop at f)) Command at Behaviour >>= behaviour_parts (λ p n. check_behaviour (d - 1) f classes p n) classes procs at)
unfolding check_behaviour
behaviour_step zero f classes at procs h = absurd (omega arith)
behaviour_step (suc d) f classes at procs h = let less : suc d - 1 ≡ d = omega arith in rw less
