use Rattle.star_builtins.proofs.TruthLemmas.{fits_bool}
use Rattle.star_builtins.proofs.truths.value_of.Goals as goal

pub returns-clause-fits : goal.returns-clause-fits
returns-clause-fits c m = fits_bool m c.args.truth
