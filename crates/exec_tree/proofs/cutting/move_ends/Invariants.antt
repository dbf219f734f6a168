use Rattle.std.proofs.Common.{◌≡◌, ◌≤◌, ◌++◌, map, take, drop, length}
use Rattle.std.specs.List.{All}
use Rattle.exec_tree.specs.Forests.{moved, parents_of}
use Rattle.exec_tree.proofs.cutting.move_ends.Given as goal

abbrev pub invariant-loop-end : goal.invariant-loop-end
invariant-loop-end l =
    (l.ends ≡ map (moved (parents_of l.nodes) l.failed) (take l.end-index l.initial.ends) ++ drop l.end-index l.initial.ends) × All (λ end. end ≤ length l.nodes) l.ends
