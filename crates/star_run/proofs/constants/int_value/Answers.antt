use Rattle.std.proofs.Math.Facts.{to_z-of_z}
use Rattle.star_builtins.proofs.FitLemmas.{fits_int}
use Rattle.star_run.proofs.constants.int_value.Goals as goal

pub returns-clause-fits : goal.returns-clause-fits
returns-clause-fits c m = rw (to_z-of_z c.ranges.number) (fits_int m c.args.number c.ranges.number)
