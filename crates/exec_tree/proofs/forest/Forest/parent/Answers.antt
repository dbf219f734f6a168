use Rattle.std.proofs.Common.{◌<◌, subst, sym}
use Rattle.exec_tree.specs.Forests.{ForestParts, IsNode}
use Rattle.exec_tree.specs.declared.node.Node.{Node}
use Rattle.exec_tree.proofs.CutLemmas.{parent_low}
use Rattle.exec_tree.proofs.forest.Forest.parent.Goals as goal

pub returns-clause-low : goal.returns-clause-low
returns-clause-low c =
    let node = subst (λ (f : ForestParts). IsNode f c.args.node) (sym c.self.view_is) c.requires in
    subst (λ (n : Node). n.parent < c.args.node) (sym c.index.ensures)
    (parent_low c.self.inside.nodes.items c.args.node c.node.inside.0 c.index.result.now c.self.invariant.low c.node.view_is node.0 node.1)
