use Rattle.star_builtins.proofs.PartLemmas.{joined_fits}
use Rattle.star_builtins.proofs.adding.add_tuple.Goals as goal

pub returns-in_ok-joined_items-in-Tuple-clause-fits : goal.returns-in_ok-joined_items-in-Tuple-clause-fits
returns-in_ok-joined_items-in-Tuple-clause-fits c = λ m left right.
    rw c.in_ok-joined_items-in-Tuple.ensures (joined_fits m c.args.left c.in-Tuple.right left (rw c.in-Tuple.is at right))
