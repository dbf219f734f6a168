use Rattle.chex_top.proofs.TaskLemmas.{few_cells}
use Rattle.chex_top.proofs.task.alone.Goals as goal

pub returns-in-Ok-clause-ready : goal.returns-in-Ok-clause-ready
returns-in-Ok-clause-ready c = (few_cells c.args.version c.in-Ok.version c.requires.small c.in-Ok.ensures.ok, c.requires.steps)
