use Rattle.std.proofs.Common.{◌≡◌, take}
use Rattle.std.specs.List.{AllByRecursion}
use Rattle.plan_type.specs.Costs.{children_of}
use Rattle.plan_type.specs.Plan.{named, IsPlanOf}
use Rattle.plan_tests.proofs.class.+is_plan_of.Given as goal

abbrev pub decreases-is_plan_of : goal.decreases-is_plan_of
decreases-is_plan_of l = goal.size-is_plan_of l

abbrev pub invariant-loop-entry : goal.invariant-loop-entry
invariant-loop-entry l = record {
  nodes : l.named.items ≡ named (take l.entry-index l.entry-items);
  plans : AllByRecursion (λ e. IsPlanOf (children_of l.costs) e.child e.rest) (take l.entry-index l.entry-items);
}
