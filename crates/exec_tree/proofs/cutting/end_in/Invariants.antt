use Rattle.std.proofs.Common.{◌≡◌, ◌≤◌}
use Rattle.exec_tree.specs.Forests.{parents_of}
use Rattle.exec_tree.proofs.CutLemmas.{nearest}
use Rattle.exec_tree.proofs.cutting.end_in.Given as goal

abbrev pub invariant-loop-at : goal.invariant-loop-at
invariant-loop-at l = (l.at ≤ l.end) × (nearest (parents_of l.nodes) l.failed l.at ≡ nearest (parents_of l.nodes) l.failed l.end)

abbrev pub decreases-loop-at : goal.decreases-loop-at
decreases-loop-at l = l.at
