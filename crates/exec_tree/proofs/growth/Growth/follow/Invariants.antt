use Rattle.std.proofs.Common.{drop}
use Rattle.exec_tree.proofs.StepLemmas.{IsUnderWay}
use Rattle.exec_tree.proofs.growth.Growth.follow.Given as goal

abbrev pub invariant-loop-cell : goal.invariant-loop-cell
invariant-loop-cell l = IsUnderWay l.version (drop l.cell-index l.cell-items) l.at l.initial.self.nodes.items l.self.nodes.items l.self.children.items l.self.hashes.items l.cell-index
