-- What is found in the head of a class, against the class.
use Rattle.std.proofs.Common.{◌≡◌, ℕ, List, length, sym, ap, ◌∙◌, arith}
use Rattle.commands.specs.Trees.{Class}
use Rattle.heads.specs.declared.class.Scope.{Scope}
use Rattle.heads.specs.Scopes.{scope_at}
use Rattle.admission.proofs.ClassHeads.{values_count}
use Rattle.classes.specs.Classes.{Begins, Scoped}

pub begins_scoped : (f : List ℕ) (at : ℕ) (c : Class) (s : Scope) → s ≡ scope_at f at → Begins f at c → Scoped f s c
begins_scoped f at c s e h =
    rw e (record {
      within = record { variables_within = omega (arith, h.within); declarations_within = omega (arith, h.within) };
      variables = h.variables;
      rows = h.rows;
      declarations = h.declarations;
    })

pub variables_many : (f : List ℕ) (s : Scope) (c : Class) → Scoped f s c → s.variables.count ≡ length c.variables
variables_many f s c h = sym (values_count s.variables.count f s.variables.at) ∙ ap length h.variables
