use Rattle.exec_tree.proofs.StepLemmas.{IsMerging}
use Rattle.exec_tree.proofs.merging.grown.Given as goal

abbrev pub invariant-loop-version : goal.invariant-loop-version
invariant-loop-version l = IsMerging l.versions l.version-index l.growth.nodes.items l.growth.children.items l.growth.hashes.items l.ends.items
