-- The check of a behaviour at a place of the file: the first fault, or the place behind it and the PROCs so far.
use Rattle.std.specs.Prelude.{ℕ, zero, suc, ◌+◌, Bool, true, ◌&&◌, List, drop, Ok, Err, ◌==◌, nat_lt}
use Rattle.commands.specs.declared.behaviour.BehaviourCommand.{BehaviourCommand}
use Rattle.commands.specs.declared.behaviour.BehaviourCommand.TheVariants.{Proc, Par, Hide, Rename}
use Rattle.commands.specs.Behaviours.{behaviour_command}
use Rattle.answers.specs.declared.fault.FaultKind.TheVariants.{Command, Depth, Operand, Processes}
use Rattle.answers.specs.declared.fault.Layer.TheVariants.{Behaviour}
use Rattle.heads.specs.Checked.{Checked, fault, ask, known, ◌>>=◌, ◌>>◌}

-- the place behind a behaviour, and the number of PROCs up to there
abbrev pub Procs : Type 0
Procs = ℕ × ℕ

-- the operands of a command: a class that there is, two channels
abbrev pub operands_fit : ℕ → BehaviourCommand → Bool
operands_fit classes (Proc class) = nat_lt class classes
operands_fit classes (Par place) = true
operands_fit classes (Hide set) = true
operands_fit classes (Rename from to) = nat_lt from 32 && nat_lt to 32

-- at most eight PROCs, behind so many
abbrev pub few_processes : ℕ → BehaviourCommand → Bool
few_processes procs (Proc class) = nat_lt procs 8
few_processes procs (Par place) = true
few_processes procs (Hide set) = true
few_processes procs (Rename from to) = true

-- a command's parts, with what the check answers of a part at each place behind so many PROCs
abbrev pub parts_of : (ℕ → ℕ → Checked Procs) → ℕ → ℕ → BehaviourCommand → Checked Procs
parts_of part procs at (Proc class) = Ok (at + 2, procs + 1)
parts_of part procs at (Par place) = do
  first ← part (at + 3) procs
  ask (first.0 == place) Command at Behaviour
  part first.0 first.1
parts_of part procs at (Hide set) = part (at + 5) procs
parts_of part procs at (Rename from to) = part (at + 3) procs

-- a command's operands, the number of PROCs, and then its parts
abbrev pub behaviour_parts : (ℕ → ℕ → Checked Procs) → ℕ → ℕ → ℕ → BehaviourCommand → Checked Procs
behaviour_parts part classes procs at c = do
  ask (operands_fit classes c) Operand at Behaviour
  ask (few_processes procs c) Processes at Behaviour
  parts_of part procs at c

-- the behaviour at a place, at most that many levels deep, over so many classes, behind so many PROCs
unfoldable pub check_behaviour : ℕ → List ℕ → ℕ → ℕ → ℕ → Checked Procs
check_behaviour zero f classes at procs = known (behaviour_command (drop at f)) Command at Behaviour >>= (λ c. Err (fault Depth at Behaviour))
check_behaviour (suc d) f classes at procs = known (behaviour_command (drop at f)) Command at Behaviour >>= behaviour_parts (λ p n. check_behaviour d f classes p n) classes procs at
