-- Values that a front takes.
use Rattle.std.specs.Prelude.{◌≡◌, ℕ, List, map, Some}
use Rattle.values.specs.Values.{Val, kind_of}
use Rattle.processes.specs.Fronts.{Action, internal, sends, receives, Front}
use Rattle.steps.specs.Models.{Model}
use Rattle.steps.specs.Steps.{target_kinds}
use Rattle.steps.specs.Taking.{process_numbered, offered_front}

-- a receive takes values of the kinds of its variables; other actions take none, and pass over what is given
abbrev pub Takes : List Val → Action → List Val → Type 0
Takes vs internal got = Unit {0}
Takes vs (sends c m xs) got = Unit {0}
Takes vs (receives c m ws) got = target_kinds vs ws ≡ map kind_of got

-- where process p has front n, the front takes these values
pub record FrontTakes (m : Model) (p n : ℕ) (got : List Val) : Type 0 where
  pub takes : (y : Front) → offered_front (process_numbered m p) n ≡ Some y → Takes (process_numbered m p).variables y.does got
