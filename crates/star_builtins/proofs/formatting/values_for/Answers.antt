use Rattle.star_builtins.proofs.FitLemmas.{tuple_items}
use Rattle.star_builtins.proofs.formatting.values_for.Goals as goal

pub returns-in-Tuple-clause-fits : goal.returns-in-Tuple-clause-fits
returns-in-Tuple-clause-fits c = λ m fit. rw c.as_slice.ensures (tuple_items m c.in-Tuple.items (rw c.in-Tuple.is at fit))
