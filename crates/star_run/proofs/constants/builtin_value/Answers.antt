use Rattle.star_run.proofs.ConstantLemmas.{builtin_fits}
use Rattle.star_run.proofs.constants.builtin_value.Goals as goal

pub returns-clause-fits : goal.returns-clause-fits
returns-clause-fits c m = builtin_fits m c.args.which
