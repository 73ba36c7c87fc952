-- A short list held in a value.
use Rattle.std.specs.Prelude.{ℕ, List, take}
use Rattle.values.specs.declared.few.Few.{Few}

-- the items, in order
abbrev pub listed : {T : Type 0} {N : ℕ} → Few T N → List T
listed f = take f.count f.room
