-- A step keeps to the declarations of the classes of the processes in it.
use Rattle.std.specs.Prelude.{◌≡◌, ℕ, Bool, true, false, List}
use Rattle.values.specs.declared.kind.Kind.{Kind}
use Rattle.commands.specs.Trees.{Class}
use Rattle.heads.specs.Exchanges.{exchange}
use Rattle.admission.specs.Conditions.{Declares}
use Rattle.records.specs.declared.step.Step.{Step}
use Rattle.arrivals.specs.Ways.{ComesOut, way, MeetsAs}
use Rattle.steps.specs.Models.{Model, class_numbered}
use Rattle.steps.specs.Taking.{process_numbered}

-- the class of a process
abbrev pub class_of : Model → ℕ → Class
class_of m p = class_numbered m.classes (process_numbered m p).class

-- a class declares the message with these kinds, on a channel that arrives as channel k
abbrev pub DeclaresArriving : Class → Bool → (ℕ → ℕ → Type 0) → ℕ → ℕ → List Kind → Type 0
DeclaresArriving c receives Arrives k message ks = (channel : ℕ) × Declares c.declarations (exchange receives channel message ks) × Arrives channel k

-- a step whose values have these kinds: in a meeting by the sender's class and by the receiver's, at the lowest PAR above both; outside by the one there is, out of all commands above its PROC
pub record KeepsDeclarations (m : Model) (s : Step) (ks : List Kind) : Type 0 where
  pub sender : s.kind ≡ 1 → DeclaresArriving (class_of m s.process) false (MeetsAs m.behaviour s.process s.partner) s.channel s.message ks
  pub receiver : s.kind ≡ 1 → DeclaresArriving (class_of m s.partner) true (MeetsAs m.behaviour s.partner s.process) s.channel s.message ks
  pub outside_send : s.kind ≡ 2 → DeclaresArriving (class_of m s.process) false (ComesOut (way m.behaviour s.process)) s.channel s.message ks
  pub outside_receive : s.kind ≡ 3 → DeclaresArriving (class_of m s.process) true (ComesOut (way m.behaviour s.process)) s.channel s.message ks
