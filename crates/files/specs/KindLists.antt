-- The kinds of an exchange as a list.
use Rattle.std.specs.Prelude.{ℕ, List, Ok, Err, Result}
use Rattle.values.specs.declared.few.Few.{Few}
use Rattle.values.specs.declared.kind.Kind.{Kind}
use Rattle.values.specs.Few as few
use Rattle.answers.specs.declared.fault.LoadFault.{LoadFault}
use Rattle.heads.specs.Checked.{Checked}

abbrev pub kinds_list : Few Kind 4 → List Kind
kinds_list k = few.listed k

abbrev pub listed : Result (ℕ × Few Kind 4) LoadFault → Checked (ℕ × List Kind)
listed (Ok v) = Ok (v.0, kinds_list v.1)
listed (Err x) = Err x
