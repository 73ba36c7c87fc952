use Rattle.inspect.proofs.fronts.print_class.Goals as goal

pub count_fronts-count-requires : goal.count_fronts-count-requires
count_fronts-count-requires c = (c.requires.0, c.of-process.ensures c.requires.0 c.requires.1)
