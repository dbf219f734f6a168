use Rattle.star_builtins.specs.Reached.{store}
use Rattle.star_builtins.proofs.MethodLemmas.{place_within}
use Rattle.star_builtins.proofs.list_methods.place_in.Goals as goal

pub returns-in-Some-clause-within : goal.returns-in-Some-clause-within
returns-in-Some-clause-within c =
    place_within c.args.wanted.now c.args.id c.list.result.now (store c.args.machine.now c.args.meter.now.left) _ c.list.ensures.value c.in-Some.place (rw c.in-Some.is at c.in_ok-place.ensures)
