-- Script: it follows a list of numbers. Its state is the numbers that are left.
use Rattle.std.specs.Prelude.{ℕ, cond, List, [], ◌∷◌, length, Ok, nat_lt}
use Rattle.choosers.specs.Meanings.{Question, Answer, declines, Meaning, along}

-- it declines where the list is used up or the next number is too high
abbrev pub script_answer : List ℕ → Question → Answer
script_answer [] q = declines
script_answer (n ∷ ns) q = cond (nat_lt n (length q)) (Ok n) declines

-- and then it stays where it is
abbrev pub script_next : List ℕ → Question → List ℕ
script_next [] q = []
script_next (n ∷ ns) q = cond (nat_lt n (length q)) ns (n ∷ ns)

abbrev pub script : List ℕ → Meaning
script = along script_answer script_next
