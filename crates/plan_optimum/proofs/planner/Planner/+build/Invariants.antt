use Rattle.std.proofs.Common.{◌≡◌, ◌+◌, ◌-◌, map, take, length}
use Rattle.std.specs.List.{AllByRecursion}
use Rattle.plan_optimum.specs.Built.{IsEntry, bare}
use Rattle.plan_optimum.proofs.planner.Planner.+build.Given as goal

abbrev pub decreases-build : goal.decreases-build
decreases-build l = length l.costs.now.rows + 1 - l.at.now.node

abbrev pub invariant-loop-pick : goal.invariant-loop-pick
invariant-loop-pick l = record {
  picks : map bare l.entries ≡ take l.pick-index l.pick-items;
  entries : AllByRecursion (IsEntry l.costs l.self l.at) l.entries;
}
