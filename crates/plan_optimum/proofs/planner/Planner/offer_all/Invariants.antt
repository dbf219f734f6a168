use Rattle.std.proofs.Common.{◌≡◌, map, take}
use Rattle.plan_optimum.specs.Entries.{offer_of}
use Rattle.plan_optimum.proofs.planner.Planner.offer_all.Given as goal

abbrev pub invariant-loop-child : goal.invariant-loop-child
invariant-loop-child l = l.offers.items ≡ map (offer_of l.costs l.self l.at) (take l.child-index l.child-items)
