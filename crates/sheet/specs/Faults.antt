-- What was expected where an expression is wrong.
use Rattle.std.specs.Prelude.{ℕ, List, Some, None, codes, Option}
use Rattle.values.specs.declared.kind.Kind.{Kind}
use Rattle.values.specs.declared.kind.Kind.TheVariants.{Integer as IntegerK, Boolean as BooleanK}
use Rattle.sheet.specs.declared.fault.Expected.{Expected}
use Rattle.sheet.specs.declared.fault.Expected.TheVariants.{Integer, Boolean, Value, Word, Number, FewerLevels, End}

abbrev pub expected_of : Option Kind → Expected
expected_of None = Value
expected_of (Some IntegerK) = Integer
expected_of (Some BooleanK) = Boolean

abbrev pub expected_text : Expected → List ℕ
expected_text Integer = codes "an Integer"
expected_text Boolean = codes "a Boolean"
expected_text Value = codes "a value"
expected_text Word = codes "an operation or a value"
expected_text Number = codes "a number from -2147483648 to 2147483647"
expected_text FewerLevels = codes "at most 32 levels"
expected_text End = codes "the end of the line"
