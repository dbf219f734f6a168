use Rattle.std.proofs.Common.{◌≡◌, ◌+◌, ◌++◌, length, drop}
use Rattle.plan_type.specs.Costs.{tree_of, steps_of}
use Rattle.plan_type.specs.Operations.{before, listed_ops, ops_at, way_back}
use Rattle.plan_type.proofs.PlanParts.{rest_ops}
use Rattle.plan_type.proofs.operations.Listing.+plan.Given as goal

abbrev pub decreases-plan : goal.decreases-plan
decreases-plan l = goal.size-plan l

abbrev pub invariant-loop-entry : goal.invariant-loop-entry
invariant-loop-entry l = record {
  counts : l.left + l.entry-index ≡ length l.entry-items;
  path : l.self.path ≡ l.fn.self.path;
  whole : l.self.operations ++ listed_ops (rest_ops (tree_of l.costs l.block) l.of l.anchor (drop l.from l.fn.self.path)) (before l.of l.blocks) (way_back (steps_of l.costs) l.of l.anchor (drop l.from l.fn.self.path)) l.stored (drop l.entry-index l.entry-items)
      ≡ l.fn.self.operations ++ ops_at (tree_of l.costs l.block) l.fn.plan l.of l.anchor (drop l.from l.fn.self.path);
}
