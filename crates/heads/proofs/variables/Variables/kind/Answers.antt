use Rattle.std.proofs.Common.{rules}
use Rattle.heads.proofs.VariableKinds.{kind_where}
use Rattle.heads.proofs.variables.Variables.kind.Goals as goal

pub returns : goal.returns
returns c = kind_where _ c.args.file.now c.args.self.at _ _ c.then.ensures.variant (search rules)
