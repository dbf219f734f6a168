use Rattle.star_builtins.proofs.PartLemmas.{repeated_fits}
use Rattle.star_builtins.proofs.repeating.times_tuple.Goals as goal

pub returns-clause-fits : goal.returns-clause-fits
returns-clause-fits c = λ m fit. rw (c.in_ok-repeated.ensures, c.as_slice-items.ensures) (repeated_fits m _ c.args.items.now fit)
