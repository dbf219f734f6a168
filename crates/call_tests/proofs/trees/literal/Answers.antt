use Rattle.std.proofs.Common.{true, false}
use Rattle.call_tests.proofs.Growing.{fits_none, fits_bool}
use Rattle.call_tests.proofs.trees.literal.Goals as goal

pub returns-in-None : goal.returns-in-None
returns-in-None c m = fits_none m

pub returns-in-True : goal.returns-in-True
returns-in-True c m = fits_bool m true

pub returns-in-False : goal.returns-in-False
returns-in-False c m = fits_bool m false
