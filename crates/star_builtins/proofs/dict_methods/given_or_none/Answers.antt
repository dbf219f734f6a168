use Rattle.star_builtins.proofs.TruthLemmas.{fits_none}
use Rattle.star_builtins.proofs.dict_methods.given_or_none.Goals as goal

pub returns-in-None-clause-fits : goal.returns-in-None-clause-fits
returns-in-None-clause-fits c = λ m h. fits_none m
