use Rattle.std.proofs.Common.{◌≡◌, drop}
use Rattle.exec_tree.specs.Kept.{cleared}
use Rattle.exec_tree.proofs.cutting.clear.Given as goal

abbrev pub invariant-loop-node : goal.invariant-loop-node
invariant-loop-node l = cleared (drop l.node-index l.failed) l.children ≡ cleared l.failed l.initial.children
