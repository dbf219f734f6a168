use Rattle.star_builtins.proofs.CallLemmas.{front_fits, last_fits}
use Rattle.star_builtins.proofs.FitLemmas.{tuple_items}
use Rattle.star_builtins.proofs.functions.pairing.two_taken.Goals as goal

pub returns-clause-first : goal.returns-clause-first
returns-clause-first c = λ m fit. last_fits m _ _ c.in-Some-pop.first c.in-Some-pop.ensures (front_fits m c.args.items _ c.in-Some.second c.in-Some.ensures (tuple_items m c.args.items fit))

pub returns-clause-second : goal.returns-clause-second
returns-clause-second c = λ m fit. last_fits m c.args.items _ c.in-Some.second c.in-Some.ensures (tuple_items m c.args.items fit)
