-- The words of an expression in prefix form, and the text of each.
use Rattle.std.specs.Prelude.{ℕ, cond, List, Some, None, Ok, Err, codes, Option, Result}
use Rattle.std.specs.Str.{bytes_eq}
use Rattle.values.specs.declared.kind.Kind.{Kind}
use Rattle.values.specs.declared.kind.Kind.TheVariants.{Boolean}
use Rattle.values.specs.declared.op.Op.{Op}
use Rattle.values.specs.declared.value.TextFault.{TextFault}
use Rattle.values.specs.Ops.{gives, op_of_name}
use Rattle.values.specs.Rows.{row_of, value_of_row}
use Rattle.values.specs.Texts.{read_value}
use Rattle.values.specs.Values.{Val, kind_of}
use Rattle.sheet.specs.declared.word.Term.{Term}
use Rattle.sheet.specs.declared.word.Term.TheVariants.{Value, Not, Binary}

-- what a word is: a term, or why it is none
abbrev pub Word : Type 0
Word = Result Term TextFault

-- the kind of the expression that a term begins
abbrev pub term_kind : Term → Kind
term_kind (Value r) = kind_of (value_of_row r)
term_kind Not = Boolean
term_kind (Binary op) = gives op

abbrev pub read_word : Result Val TextFault → Word
read_word (Ok v) = Ok (Value (row_of v))
read_word (Err e) = Err e

abbrev pub value_word : List ℕ → Word
value_word text = read_word (read_value text)

abbrev pub op_word : Option Op → Word → Word
op_word None other = other
op_word (Some op) other = Ok (Binary op)

abbrev pub word_of : List ℕ → Word
word_of text = cond (bytes_eq text (codes "NOT")) (Ok Not) (op_word (op_of_name text) (value_word text))
