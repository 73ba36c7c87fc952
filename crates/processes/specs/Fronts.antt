-- What a process can do next.
use Rattle.std.specs.Prelude.{ℕ, ◌+◌, Bool, true, false, cond, not, List, [], ◌∷◌, ◌++◌, map, Some, None, Option, slice_set}
use Rattle.values.specs.Values.{Val, as_truth}
use Rattle.commands.specs.Trees.{Stmt, skip, assign, send, receive, sequence, select, guard, branch, loop}
use Rattle.admission.specs.Conditions.{most_fronts}
use Rattle.processes.specs.Evaluation.{eval}

-- what a front does with others: nothing; a send of values; a receive into variables
pub data Action : Type 0 where
  internal : Action
  sends : ℕ → ℕ → List Val → Action
  receives : ℕ → ℕ → List ℕ → Action

-- a front: its number, what it does with others, and the variables and the statements that its own work leaves
pub record Front : Type 0 where
  pub number : ℕ
  pub does : Action
  pub variables : List Val
  pub leaves : List Stmt

abbrev pub front : ℕ → Action → List Val → List Stmt → Front
front n a vs l = record { number = n; does = a; variables = vs; leaves = l }

-- three-valued tests
abbrev pub is_true : Val → Bool
is_true v = by_truth (as_truth v)
  where
    by_truth : Option Bool → Bool
    by_truth None = false
    by_truth (Some b) = b

abbrev pub is_false : Val → Bool
is_false v = by_truth (as_truth v)
  where
    by_truth : Option Bool → Bool
    by_truth None = false
    by_truth (Some b) = not b

-- offered when the test is passed
abbrev pub offered : Bool → Front → List Front
offered true x = x ∷ []
offered false x = []

-- a front with more statements behind those that it leaves
abbrev pub behind : List Stmt → Front → Front
behind rest x = front x.number x.does x.variables (x.leaves ++ rest)

-- the fronts of a statement alone, numbered from a number on, by the variables as they are
abbrev pub fronts : List Val → ℕ → Stmt → List Front
fronts vs n skip = front n internal vs [] ∷ []
fronts vs n (assign v e) = front n internal (slice_set vs v (eval e vs)) [] ∷ []
fronts vs n (send c m es) = front n (sends c m (map (λ e. eval e vs) es)) vs [] ∷ []
fronts vs n (receive c m ws) = front n (receives c m ws) vs [] ∷ []
fronts vs n (sequence a b) = map (behind (b ∷ [])) (fronts vs n a)
fronts vs n (select a b) = fronts vs n a ++ fronts vs (n + most_fronts a) b
fronts vs n (guard e a) = cond (is_true (eval e vs)) (fronts vs n a) []
fronts vs n (branch e a b) =
    offered (not (is_false (eval e vs))) (front n internal vs (a ∷ [])) ++ offered (not (is_true (eval e vs))) (front (n + 1) internal vs (b ∷ []))
fronts vs n (loop e a) =
    offered (not (is_false (eval e vs))) (front n internal vs (a ∷ loop e a ∷ [])) ++ offered (not (is_true (eval e vs))) (front (n + 1) internal vs [])

-- what remains of a process is a list of statements; with none it has ended
abbrev pub process_fronts : List Val → List Stmt → List Front
process_fronts vs [] = []
process_fronts vs (s ∷ rest) = map (behind rest) (fronts vs 0 s)
