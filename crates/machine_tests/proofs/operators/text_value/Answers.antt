use Rattle.star_builtins.proofs.FitLemmas.{fits_text}
use Rattle.machine_tests.proofs.operators.text_value.Goals as goal

pub returns : goal.returns
returns c m = fits_text m c.args.text c.as_str-characters.ensures.scalars
