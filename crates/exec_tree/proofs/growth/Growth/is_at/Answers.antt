use Rattle.std.proofs.Common.{arith}
use Rattle.exec_tree.proofs.GrowthLemmas.{other_hash}
use Rattle.exec_tree.proofs.growth.Growth.is_at.Goals as goal

pub returns-else-index-hash : goal.returns-else-index-hash
returns-else-index-hash c =
    other_hash _ _ _ c.requires.grows c.args.node _ c.index-node.result.now _ c.args.hash _ (omega (arith, c.node.view_is)) (omega (arith, c.requires.least, c.requires.most)) c.index.ensures c.requires.hash c.if-index-hash.false
