use Rattle.star_meaning.proofs.Equations.{out_int}
use Rattle.star_builtins.specs.Reached.{store}
use Rattle.star_builtins.proofs.WeighedLemmas.{gives_weighed}
use Rattle.star_builtins.proofs.repeating.repeated.Goals as goal

pub returns-in-Int-clause-gives : goal.returns-in-Int-clause-gives
returns-in-Int-clause-gives c =
    rw (c.in-Int.is, out_int c.in-Int.other) (gives_weighed _ _ _ (c.times_int.ensures.gives (store c.args.machine.now c.args.meter.now.left)))
