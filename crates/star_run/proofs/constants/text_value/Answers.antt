use Rattle.star_builtins.proofs.FitLemmas.{fits_text}
use Rattle.star_run.proofs.constants.text_value.Goals as goal

pub returns-clause-fits : goal.returns-clause-fits
returns-clause-fits c m = fits_text m c.args.text c.as_str-characters.ensures.scalars
