use Rattle.std.proofs.Common.{◌≡◌, ◌≤◌, max, drop}
use Rattle.plan_type.specs.Costs.{blocks_of}
use Rattle.plan_type.specs.Plan.{greatest, peak_at}
use Rattle.plan_type.proofs.PlanParts.{rest_peak}
use Rattle.plan_type.proofs.plan.Plan.+peak_from.Given as goal

abbrev pub decreases-peak_from : goal.decreases-peak_from
decreases-peak_from l = goal.size-peak_from l

abbrev pub invariant-loop-entry : goal.invariant-loop-entry
invariant-loop-entry l = record {
  least : l.used ≤ l.greatest;
  whole : max l.greatest (greatest (rest_peak (blocks_of l.costs l.fn.block) l.fn.of l.used) l.used (drop l.entry-index l.entry-items)) ≡ peak_at (blocks_of l.costs l.fn.block) l.self l.fn.of l.used;
}
