-- The list of stated room.
use Rattle.std.specs.Prelude.{◌≡◌, ℕ, ◌+◌, ◌≤◌, List, [], ◌∷◌, ◌++◌, length, take, Some, None, Option}
use Rattle.records.specs.declared.list.RecordList.{RecordList}

-- the records of a list, in order
abbrev pub items : {T : Type 0} → RecordList T → List T
items l = take l.count l.room.now

-- how many records a list has room for
abbrev pub room_of : {T : Type 0} → RecordList T → ℕ
room_of l = length l.room.now

-- a record where there is one
abbrev pub optional : {T : Type 0} → Option T → List T
optional None = []
optional (Some x) = x ∷ []

-- a list has room for these too
pub record Room {T : Type 0} (l : RecordList T) (xs : List T) : Type 0 where
  pub fits : length (items l) + length xs ≤ room_of l

-- a list has grown by these, in order, and by nothing else
pub record Grown {T : Type 0} (before after : RecordList T) (xs : List T) : Type 0 where
  pub list : items after ≡ items before ++ xs
  pub same_room : room_of after ≡ room_of before
