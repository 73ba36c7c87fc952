-- What is written of the faults of a line.
use Rattle.std.specs.Prelude.{ℕ, List, codes, Some, None, Option}
use Rattle.rota.specs.Choices.{choice_fault_text}
use Rattle.session.specs.declared.fault.RequestFault.{RequestFault}
use Rattle.session.specs.declared.fault.RequestFault.TheVariants.{NoSuchCommand, NoMemory, Hex, List as ListF, Take, Run, Chooser, Journal, State}

-- a fault of hexadecimal digits is written as `check` writes it, of which nothing is said here
abbrev pub request_fault_text : RequestFault → Option (List ℕ)
request_fault_text NoSuchCommand = Some (codes "no such command")
request_fault_text NoMemory = Some (codes "there is not enough memory for this line")
request_fault_text (Hex x) = None
request_fault_text ListF = Some (codes "expected list [ROOM], a room from 0 to 65535")
request_fault_text Take = Some (codes "expected take and seven numbers from 0 to 255, then values")
request_fault_text Run = Some (codes "expected run BUDGET [ROOM], a budget from 0 to 4294967295 and a room from 0 to 65535")
request_fault_text (Chooser x) = Some (choice_fault_text x)
request_fault_text Journal = Some (codes "expected journal [ROOM], a room from 0 to 65535")
request_fault_text State = Some (codes "expected state and nothing else")
