use Rattle.star_builtins.proofs.FitLemmas.{dict_value}
use Rattle.star_builtins.proofs.indexing.value_at_key.Goals as goal

pub returns-clause-fits : goal.returns-clause-fits
returns-clause-fits c = rw c.in_ok-copy.ensures (dict_value _ c.args.id c.in_ok-key.key _ c.dict_get.ensures.kept c.requires.held c.in-Some.ensures.value)
