use Rattle.star_builtins.proofs.FitLemmas.{fits_text}
use Rattle.call_tests.proofs.trees.text_value.Goals as goal

pub returns : goal.returns
returns c m = fits_text m c.args.text c.as_str-characters.ensures.scalars
