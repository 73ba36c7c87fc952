-- What the calls answer, by number: for every case its number, and the values that go with it.
use Rattle.std.specs.Prelude.{ℕ, Ok, Err, Result}
use Rattle.answers.specs.declared.fault.FaultKind.{FaultKind}
use Rattle.answers.specs.declared.fault.FaultKind.TheVariants.{Length, FirstBytes, ClassHead, Command, Depth, Operand, PartKind, Undeclared, Fronts, Processes}
use Rattle.answers.specs.declared.fault.Layer.{Layer}
use Rattle.answers.specs.declared.fault.Layer.TheVariants.{File as FileL, ClassHead as ClassHeadL, Statement as StatementL, Expression as ExpressionL, Behaviour as BehaviourL}
use Rattle.answers.specs.declared.fault.LoadFault.{LoadFault}
use Rattle.answers.specs.declared.refusal.NoRoom.{NoRoom}
use Rattle.answers.specs.declared.refusal.TakeRefusal.{TakeRefusal}
use Rattle.answers.specs.declared.refusal.TakeRefusal.TheVariants.{NotListed, Values, JournalFull}
use Rattle.answers.specs.declared.stop.Stop.{Stop}
use Rattle.answers.specs.declared.stop.Stop.TheVariants.{BudgetSpent, NoClosedStep, Declined, JournalFull as JournalFullS}

-- LOAD is accepted, or refused with the number, the place and the layer of a fault

abbrev pub fault_number : FaultKind → ℕ
fault_number Length = 1
fault_number FirstBytes = 2
fault_number ClassHead = 3
fault_number Command = 4
fault_number Depth = 5
fault_number Operand = 6
fault_number PartKind = 7
fault_number Undeclared = 8
fault_number Fronts = 9
fault_number Processes = 10

abbrev pub layer_number : Layer → ℕ
layer_number FileL = 1
layer_number ClassHeadL = 2
layer_number StatementL = 3
layer_number ExpressionL = 4
layer_number BehaviourL = 5

abbrev pub load_says : Result (Unit {0}) LoadFault → Result (Unit {0}) (ℕ × ℕ × ℕ)
load_says (Ok done) = Ok tt
load_says (Err x) = Err (fault_number x.kind, x.place, layer_number x.layer)

-- LIST is accepted, or refused with 12

abbrev pub room_number : NoRoom → ℕ
room_number x = 12

abbrev pub list_says : Result (Unit {0}) NoRoom → Result (Unit {0}) ℕ
list_says (Ok done) = Ok tt
list_says (Err x) = Err (room_number x)

-- TAKE is accepted, or refused with a number

abbrev pub take_number : TakeRefusal → ℕ
take_number NotListed = 21
take_number Values = 11
take_number JournalFull = 22

abbrev pub take_says : Result (Unit {0}) TakeRefusal → Result (Unit {0}) ℕ
take_says (Ok done) = Ok tt
take_says (Err x) = Err (take_number x)

-- RUN answers how many steps it took and its stop word, or is refused with 12

abbrev pub stop_number : Stop → ℕ
stop_number BudgetSpent = 0
stop_number NoClosedStep = 1
stop_number Declined = 2
stop_number JournalFullS = 3

abbrev pub run_says : Result (ℕ × Stop) NoRoom → Result (ℕ × ℕ) ℕ
run_says (Ok ran) = Ok (ran.0, stop_number ran.1)
run_says (Err x) = Err (room_number x)
