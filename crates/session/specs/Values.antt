-- Why words give no values.
use Rattle.std.specs.Prelude.{ℕ, List}
use Rattle.values.specs.declared.row.Row.{Row}
use Rattle.session.specs.declared.operands.ValuesFault.{ValuesFault}
use Rattle.session.specs.declared.operands.ValuesFault.TheVariants.{NotAValue, NoMemory}
use Rattle.session.specs.Operands.{ValueWords}

-- some word writes none, unless memory ran out
abbrev pub NoValues : List (List ℕ) → ValuesFault → Type 0
NoValues ws NotAValue = (rows : List Row) → ValueWords ws rows → ⊥
NoValues ws NoMemory = Unit {0}
