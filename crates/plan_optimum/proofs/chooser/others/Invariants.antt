use Rattle.std.proofs.Common.{◌≡◌, map, take}
use Rattle.plan_optimum.specs.Chosen.{other_pick}
use Rattle.plan_optimum.proofs.chooser.others.Given as goal

abbrev pub invariant-loop-offer : goal.invariant-loop-offer
invariant-loop-offer l = l.picks.items ≡ map (other_pick l.fees) (take l.offer-index l.offers)
