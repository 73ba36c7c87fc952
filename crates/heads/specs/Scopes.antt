-- Where the variables and declarations of a class stand, and that they lie within the file.
use Rattle.std.specs.Prelude.{ℕ, ◌+◌, ◌*◌, ◌≤◌, List, length}
use Rattle.heads.specs.declared.class.Scope.{Scope}
use Rattle.heads.specs.Heads.{byte, declarations_place}

pub record Within (f : List ℕ) (s : Scope) : Type 0 where
  pub variables_within : s.variables.at + 6 * s.variables.count ≤ length f
  pub declarations_within : s.declarations.at + 8 * s.declarations.count ≤ length f

-- where the variables and declarations of the class whose bytes begin at a place stand
abbrev pub scope_at : List ℕ → ℕ → Scope
scope_at f at =
    record {
      variables = record { at = at + 1; count = byte f at };
      declarations = record { at = declarations_place f at + 1; count = byte f (declarations_place f at) };
    }
