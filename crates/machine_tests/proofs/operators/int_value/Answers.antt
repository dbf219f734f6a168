use Rattle.std.proofs.Math.Facts.{to_z-of_z}
use Rattle.star_builtins.proofs.FitLemmas.{fits_int}
use Rattle.machine_tests.proofs.operators.int_value.Goals as goal

pub returns : goal.returns
returns c m = rw (to_z-of_z c.ranges.number) (fits_int m c.args.number c.ranges.number)
