use Rattle.call_tests.proofs.Growing.{fits_none}
use Rattle.call_tests.proofs.calls.nothing.Goals as goal

pub returns-in-Ok : goal.returns-in-Ok
returns-in-Ok c m = fits_none m
