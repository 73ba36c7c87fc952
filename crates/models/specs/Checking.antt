-- What the check of a step answers.
use Rattle.std.specs.Prelude.{Some, None, Option, Ok, Err, Result}
use Rattle.answers.specs.declared.refusal.TakeRefusal.{TakeRefusal}

-- the refusal in it, if any
abbrev pub refusal_in : {A : Type 0} → Result A TakeRefusal → Option TakeRefusal
refusal_in (Ok a) = None
refusal_in (Err x) = Some x
