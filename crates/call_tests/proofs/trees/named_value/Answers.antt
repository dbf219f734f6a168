use Rattle.call_tests.proofs.Growing.{fits_builtin}
use Rattle.call_tests.proofs.trees.named_value.Goals as goal

pub returns-in-Some-clause-fits : goal.returns-in-Some-clause-fits
returns-in-Some-clause-fits c = fits_builtin c.args.machine.now c.in-Some.which
