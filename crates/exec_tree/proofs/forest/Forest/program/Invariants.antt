use Rattle.std.proofs.Common.{◌≡◌, map, take}
use Rattle.exec_tree.specs.declared.node.Node.{Node}
use Rattle.exec_tree.proofs.forest.Forest.program.Given as goal

abbrev pub invariant-loop-node : goal.invariant-loop-node
invariant-loop-node l = l.cells.items ≡ map (λ (node : Node). node.cell) (take l.node-index l.node-items)
