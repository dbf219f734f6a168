use Rattle.std.proofs.Common.{◌≡◌, ◌≤◌, ◌++◌, length}
use Rattle.std.specs.List.{All}
use Rattle.exec_tree.specs.Forests.{parents, path}
use Rattle.shared_run.proofs.ways.way_to.Given as goal

abbrev pub invariant-loop-at : goal.invariant-loop-at
invariant-loop-at l = record {
  within : l.at ≤ length l.forest.nodes;
  known : All (λ n. (1 ≤ n) × (n ≤ length l.forest.nodes)) l.nodes.items;
  gathered : l.nodes.items ++ path (parents l.forest) l.at ≡ path (parents l.forest) l.fn.end;
}

abbrev pub decreases-loop-at : goal.decreases-loop-at
decreases-loop-at l = l.at
