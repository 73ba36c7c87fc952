-- The check of a statement at a place of the file: the first fault, or the place behind it and its most fronts.
use Rattle.std.specs.Prelude.{ℕ, zero, suc, ◌+◌, Bool, true, false, not, ◌&&◌, List, [], ◌∷◌, map, length, take, drop, Ok, Err, Option, unwrap_or, ◌==◌, nat_le, nat_lt}
use Rattle.std.specs.List.{slice_get, list_any, list_all}
use Rattle.values.specs.declared.kind.Kind.{Kind}
use Rattle.values.specs.declared.kind.Kind.TheVariants.{Integer, Boolean}
use Rattle.values.specs.Kinds.{same_kind}
use Rattle.commands.specs.declared.statement.StatementCommand.{StatementCommand}
use Rattle.commands.specs.declared.statement.StatementCommand.TheVariants.{Skip, Set, Send, Recv, Seq, Sel, Guard, If, Do}
use Rattle.commands.specs.Statements.{statement_command}
use Rattle.commands.specs.Trees.{Declaration}
use Rattle.answers.specs.declared.fault.FaultKind.TheVariants.{Command, Depth, Operand, PartKind, Undeclared, Fronts}
use Rattle.answers.specs.declared.fault.Layer.TheVariants.{Expression, Statement}
use Rattle.heads.specs.Checked.{Checked, fault, ask, known, ◌>>=◌, ◌>>◌}
use Rattle.heads.specs.Exchanges.{exchange, declared}
use Rattle.files.specs.Expressions.{End, check_expression}

-- the place behind a statement, and how many fronts it can have
abbrev pub Behind : Type 0
Behind = ℕ × ℕ

-- bounds of the operands of SEND and RECV
abbrev pub exchange_fits : ℕ → ℕ → ℕ → Bool
exchange_fits channel message count = nat_lt channel 32 && nat_lt message 255 && nat_lt count 5

abbrev pub member : ℕ → List ℕ → Bool
member x ys = list_any (λ y. x == y) ys

abbrev pub distinct : List ℕ → Bool
distinct [] = true
distinct (x ∷ xs) = not (member x xs) && distinct xs

abbrev pub all_below : ℕ → List ℕ → Bool
all_below n xs = list_all (λ x. nat_lt x n) xs

abbrev pub all_unused : List ℕ → Bool
all_unused xs = list_all (λ x. x == 255) xs

-- the variables of a RECV: the used ones exist and differ, the others are FF
abbrev pub variables_fit : ℕ → ℕ → List ℕ → Bool
variables_fit variables count vs = all_below variables (take count vs) && distinct (take count vs) && all_unused (drop count vs)

abbrev pub kind_or_integer : Option Kind → Kind
kind_or_integer k = unwrap_or k Integer

-- the kinds of variables that exist
abbrev pub kinds_of : List Kind → List ℕ → List Kind
kinds_of ks vs = map (λ v. kind_or_integer (slice_get ks v)) vs

-- some expressions one after the other: the place behind them, and their kinds
abbrev pub check_values : ℕ → (ℕ → Checked End) → ℕ → Checked (ℕ × List Kind)
check_values zero value at = Ok (at, [])
check_values (suc n) value at = do
  first ← value at
  rest ← check_values n value first.0
  Ok (rest.0, first.1 ∷ rest.1)

-- a Boolean at a place
abbrev pub check_test : (ℕ → Checked End) → ℕ → Checked ℕ
check_test value at = do
  test ← value at
  ask (same_kind Boolean test.1) PartKind at Expression
  Ok test.0

-- a place operand of the command at a place
abbrev pub placed : ℕ → ℕ → ℕ → Checked (Unit {0})
placed at end place = ask (end == place) Command at Statement

abbrev pub few_fronts : ℕ → Behind → Checked Behind
few_fronts at end = do
  ask (nat_le end.1 8) Fronts at Statement
  Ok end

-- SET: the variable exists, and the value has its kind
abbrev pub check_set : (ℕ → Checked End) → List Kind → ℕ → ℕ → Checked Behind
check_set value ks at v = do
  kind ← known (slice_get ks v) Operand at Statement
  end ← value (at + 2)
  ask (same_kind kind end.1) PartKind (at + 2) Expression
  Ok (end.0, 1)

-- SEND: operands within bounds, the values, and a declaration of their kinds
abbrev pub check_send : (ℕ → Checked End) → List Declaration → ℕ → ℕ → ℕ → ℕ → Checked Behind
check_send value ds at channel message count = do
  ask (exchange_fits channel message count) Operand at Statement
  values ← check_values count value (at + 4)
  ask (declared (exchange false channel message values.1) ds) Undeclared at Statement
  Ok (values.0, 1)

-- RECV: operands within bounds, and a declaration of the variables' kinds
abbrev pub check_receive : List Kind → List Declaration → ℕ → ℕ → ℕ → ℕ → List ℕ → Checked Behind
check_receive ks ds at channel message count vs = do
  ask (exchange_fits channel message count && variables_fit (length ks) count vs) Operand at Statement
  ask (declared (exchange true channel message (kinds_of ks (take count vs))) ds) Undeclared at Statement
  Ok (at + 8, 1)

-- a command's operands and parts, with what the checks answer of an expression and of a statement at each place
abbrev pub statement_parts : (ℕ → Checked End) → (ℕ → Checked Behind) → List Kind → List Declaration → ℕ → StatementCommand → Checked Behind
statement_parts value part ks ds at Skip = Ok (at + 1, 1)
statement_parts value part ks ds at (Set v) = check_set value ks at v
statement_parts value part ks ds at (Send channel message count) = check_send value ds at channel message count
statement_parts value part ks ds at (Recv channel message count vs) = check_receive ks ds at channel message count vs
statement_parts value part ks ds at (Seq place) = do
  first ← part (at + 3)
  placed at first.0 place
  second ← part first.0
  Ok (second.0, first.1)
statement_parts value part ks ds at (Sel place) = do
  first ← part (at + 3)
  placed at first.0 place
  second ← part first.0
  Ok (second.0, first.1 + second.1)
statement_parts value part ks ds at (Guard place) = do
  test ← check_test value (at + 3)
  placed at test place
  part test
statement_parts value part ks ds at (If place other) = do
  test ← check_test value (at + 5)
  placed at test place
  first ← part test
  placed at first.0 other
  second ← part first.0
  Ok (second.0, 2)
statement_parts value part ks ds at (Do place) = do
  test ← check_test value (at + 3)
  placed at test place
  end ← part test
  Ok (end.0, 2)

-- the statement at a place, at most that many levels deep, in a class of these variables and declarations
unfoldable pub check_statement : ℕ → List ℕ → ℕ → List Kind → List Declaration → Checked Behind
check_statement zero f at ks ds = known (statement_command (drop at f)) Command at Statement >>= (λ c. Err (fault Depth at Statement))
check_statement (suc d) f at ks ds =
    known (statement_command (drop at f)) Command at Statement
    >>= statement_parts (λ p. check_expression d f p ks) (λ p. check_statement d f p ks ds) ks ds at
    >>= few_fronts at
