-- The kinds and declarations that the statement of a class may name.
use Rattle.std.specs.Prelude.{List}
use Rattle.values.specs.declared.kind.Kind.{Kind}
use Rattle.commands.specs.Trees.{Declaration}
use Rattle.files.specs.declared.body.Body.{Body}
use Rattle.heads.specs.Heads.{kinds_at, declarations_at}

abbrev pub kinds_in : Body → List Kind
kinds_in b = kinds_at b.scope.variables.count b.file.now b.scope.variables.at

abbrev pub declarations_in : Body → List Declaration
declarations_in b = declarations_at b.scope.declarations.count b.file.now b.scope.declarations.at
