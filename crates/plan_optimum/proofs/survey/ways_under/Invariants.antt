use Rattle.std.proofs.Common.{◌≡◌, map, take}
use Rattle.plan_type.specs.Costs.{steps_of}
use Rattle.plan_optimum.specs.Sites.{way_on}
use Rattle.plan_optimum.proofs.survey.ways_under.Given as goal

abbrev pub invariant-loop-way : goal.invariant-loop-way
invariant-loop-way l = l.ways ≡ map (way_on (steps_of l.costs l.fn.child)) (take l.way-index l.above)
