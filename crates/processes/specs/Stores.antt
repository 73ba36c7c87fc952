-- What a front stores by itself.
use Rattle.std.specs.Prelude.{ℕ, ◌-◌, cond, List, [], ◌∷◌, Some, None, Option, nat_lt, slice_set}
use Rattle.values.specs.Values.{Val}
use Rattle.commands.specs.Trees.{Stmt, skip, assign, send, receive, sequence, select, guard, branch, loop}
use Rattle.admission.specs.Conditions.{most_fronts}
use Rattle.processes.specs.Evaluation.{eval}

-- the front of a number, from 0 within the statement, stores its value in its variable where it is a SET's, otherwise nothing
abbrev pub stores : List Val → Stmt → ℕ → Option (ℕ × Val)
stores vs skip n = None
stores vs (assign v e) n = Some (v, eval e vs)
stores vs (send c m es) n = None
stores vs (receive c m ws) n = None
stores vs (sequence a b) n = stores vs a n
stores vs (select a b) n = cond (nat_lt n (most_fronts a)) (stores vs a n) (stores vs b (n - most_fronts a))
stores vs (guard e a) n = stores vs a n
stores vs (branch e a b) n = None
stores vs (loop e a) n = None

-- the front of a number of a process: of its first statement
abbrev pub process_stores : List Val → List Stmt → ℕ → Option (ℕ × Val)
process_stores vs [] n = None
process_stores vs (s ∷ rest) n = stores vs s n

-- variables, with what is stored put in
abbrev pub with_stored : List Val → Option (ℕ × Val) → List Val
with_stored vs None = vs
with_stored vs (Some p) = slice_set vs p.0 p.1
