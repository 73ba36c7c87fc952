-- What a SEND or RECV exchanges, as a declaration says it, and whether a class declares it.
use Rattle.std.specs.Prelude.{ℕ, Bool, true, false, ◌&&◌, ◌||◌, List, [], ◌∷◌, ◌==◌}
use Rattle.values.specs.declared.kind.Kind.{Kind}
use Rattle.values.specs.Kinds.{same_kind}
use Rattle.values.specs.Values.{same_truths}
use Rattle.commands.specs.Trees.{Declaration}
use Rattle.heads.specs.declared.declarations.Exchange.{Exchange}

abbrev pub same_kinds : List Kind → List Kind → Bool
same_kinds [] [] = true
same_kinds [] (l ∷ ls) = false
same_kinds (k ∷ ks) [] = false
same_kinds (k ∷ ks) (l ∷ ls) = same_kind k l && same_kinds ks ls

abbrev pub same_declaration : Declaration → Declaration → Bool
same_declaration d e =
    same_truths d.receives e.receives && d.channel == e.channel && d.message == e.message && same_kinds d.kinds e.kinds

abbrev pub declared : Declaration → List Declaration → Bool
declared d [] = false
declared d (e ∷ es) = same_declaration d e || declared d es

abbrev pub exchange : Bool → ℕ → ℕ → List Kind → Declaration
exchange receives channel message kinds = record { receives = receives; channel = channel; message = message; kinds = kinds }

abbrev pub exchange_of : Exchange → Declaration
exchange_of x = exchange x.receives x.channel x.message x.kinds.now
