use Rattle.std.proofs.Common.{◌≡◌, map, take}
use Rattle.plan_optimum.specs.Chosen.{free_pick}
use Rattle.plan_optimum.proofs.chooser.free.Given as goal

abbrev pub invariant-loop-offer : goal.invariant-loop-offer
invariant-loop-offer l = l.picks.items ≡ map free_pick (take l.offer-index l.offers)
