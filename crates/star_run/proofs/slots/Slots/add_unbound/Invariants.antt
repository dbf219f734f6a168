use Rattle.std.proofs.Common.{◌≡◌, ◌++◌, drop}
use Rattle.star_meaning.specs.World.{unbound}
use Rattle.star_run.proofs.slots.Slots.add_unbound.Given as goal

abbrev pub invariant-loop-at : goal.invariant-loop-at
invariant-loop-at l = l.self ++ unbound (drop l.at l.layout) ≡ l.fn.self ++ unbound (drop l.fn.from l.layout)
