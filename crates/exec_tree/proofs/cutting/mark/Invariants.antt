use Rattle.std.proofs.Common.{◌≡◌, drop}
use Rattle.exec_tree.specs.Forests.{marked}
use Rattle.exec_tree.proofs.cutting.mark.Given as goal

abbrev pub invariant-loop-node : goal.invariant-loop-node
invariant-loop-node l = marked (drop l.node-index l.failed) l.marks ≡ marked l.failed l.initial.marks
