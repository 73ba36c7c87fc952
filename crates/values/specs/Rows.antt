-- The plain row of a value: kind, known, number.
use Rattle.std.specs.Prelude.{Bool, true, false, cond, not, ◌&&◌, ◌||◌, pos, Some, None, ◌==◌}
use Rattle.values.specs.declared.kind.Kind.{Kind}
use Rattle.values.specs.declared.kind.Kind.TheVariants.{Integer, Boolean}
use Rattle.values.specs.declared.row.Row.{Row}
use Rattle.values.specs.Kinds.{kind_number}
use Rattle.values.specs.Values.{Val, integer, boolean, unknown_of, is_zero, same_numbers}

-- the row in which a value lies; an unknown one has the number 0
abbrev pub row_of : Val → Row
row_of (integer None) = record { kind = kind_number Integer; known = 0; number = pos 0 }
row_of (integer (Some z)) = record { kind = kind_number Integer; known = 1; number = z }
row_of (boolean None) = record { kind = kind_number Boolean; known = 0; number = pos 0 }
row_of (boolean (Some false)) = record { kind = kind_number Boolean; known = 1; number = pos 0 }
row_of (boolean (Some true)) = record { kind = kind_number Boolean; known = 1; number = pos 1 }

-- the check of a row, by its kind
abbrev pub valid_unknown : Row → Bool
valid_unknown r = r.known == 0 && is_zero r.number

abbrev pub valid_truth : Row → Bool
valid_truth r = r.known == 1 && (is_zero r.number || same_numbers r.number (pos 1))

abbrev pub valid : Row → Bool
valid r =
    cond (r.kind == 1) (valid_unknown r || r.known == 1)
    (r.kind == 2 && (valid_unknown r || valid_truth r))

-- a row of kind 2 is a Boolean's, and any other an Integer's
abbrev pub row_kind : Row → Kind
row_kind r = cond (r.kind == 2) Boolean Integer

-- what a row that passes its check holds
abbrev pub stored : Row → Val
stored r =
    cond (r.known == 0) (unknown_of (row_kind r))
    (cond (r.kind == 2) (boolean (Some (not (is_zero r.number)))) (integer (Some r.number)))

-- a row that fails its check is read as unknown
abbrev pub value_of_row : Row → Val
value_of_row r = cond (valid r) (stored r) (unknown_of (row_kind r))
