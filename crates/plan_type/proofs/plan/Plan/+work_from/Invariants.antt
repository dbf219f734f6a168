use Rattle.std.proofs.Common.{◌≡◌, ◌+◌, length, drop}
use Rattle.plan_type.specs.Costs.{steps_of}
use Rattle.plan_type.specs.Plan.{work_at, listed_work}
use Rattle.plan_type.proofs.Works.{rest_work}
use Rattle.plan_type.proofs.plan.Plan.+work_from.Given as goal

abbrev pub decreases-work_from : goal.decreases-work_from
decreases-work_from l = goal.size-work_from l

abbrev pub invariant-loop-entry : goal.invariant-loop-entry
invariant-loop-entry l = record {
  counts : l.left + l.entry-index ≡ length l.entry-items;
  whole : l.total + listed_work (rest_work (steps_of l.costs) l.back) l.back (drop l.entry-index l.entry-items) ≡ work_at (steps_of l.costs) l.self l.back;
}
