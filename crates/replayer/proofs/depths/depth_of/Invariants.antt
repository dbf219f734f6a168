use Rattle.std.proofs.Common.{◌≡◌, ◌≤◌, ◌+◌, length}
use Rattle.replayer.specs.Nodes.{depth_at}
use Rattle.replayer.proofs.depths.depth_of.Given as goal

abbrev pub invariant-loop-at : goal.invariant-loop-at
invariant-loop-at l = record {
  within : l.at ≤ length l.forest.nodes;
  small : l.depth + l.at ≤ l.fn.node;
  deep : l.depth + depth_at l.forest l.at ≡ depth_at l.forest l.fn.node;
}

abbrev pub decreases-loop-at : goal.decreases-loop-at
decreases-loop-at l = l.at
