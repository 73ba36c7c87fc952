use Rattle.std.proofs.Common.{arith}
use Rattle.classes.proofs.Walking.{class_known}
use Rattle.inspect.proofs.fronts.print_classes.Goals as goal

pub print_class-requires : goal.print_class-requires
print_class-requires c = class_known c.args.file.now c.requires.0 _ c.requires.1 (omega (arith, c.requires.2, c.loop-class-test.true))
