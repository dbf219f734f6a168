use Rattle.star_run.proofs.ConstantLemmas.{bool_fits}
use Rattle.star_run.proofs.constants.bool_value.Goals as goal

pub returns-clause-fits : goal.returns-clause-fits
returns-clause-fits c m = bool_fits m c.args.truth
