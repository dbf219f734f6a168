use Rattle.std.proofs.Common.{◌≡◌, ◌+◌, length, drop}
use Rattle.plan_type.specs.Costs.{tree_of}
use Rattle.plan_type.specs.Prices.{prices_of, cost_at}
use Rattle.plan_type.proofs.CostFits.{cost_left}
use Rattle.plan_type.proofs.plan.Plan.+cost_from.Given as goal

abbrev pub decreases-cost_from : goal.decreases-cost_from
decreases-cost_from l = goal.size-cost_from l

abbrev pub invariant-loop-entry : goal.invariant-loop-entry
invariant-loop-entry l = record {
  counts : l.left + l.entry-index ≡ length l.entry-items;
  whole : l.total + cost_left l.costs l.budget l.fn.of l.back l.again l.held (drop l.entry-index l.entry-items) ≡ cost_at (tree_of l.costs l.budget.block) (prices_of l.budget) l.self l.fn.of l.back l.again;
}
