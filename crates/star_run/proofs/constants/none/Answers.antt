use Rattle.star_run.proofs.ConstantLemmas.{none_fits}
use Rattle.star_run.proofs.constants.none.Goals as goal

pub returns-clause-fits : goal.returns-clause-fits
returns-clause-fits c m = none_fits m
