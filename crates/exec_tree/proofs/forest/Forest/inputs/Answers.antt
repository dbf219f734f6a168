use Rattle.std.proofs.Common.{◌≡◌, Some, subst, sym, ap, ◌∙◌}
use Rattle.star_syntax.specs.Cells.{numbered}
use Rattle.exec_tree.specs.Forests.{ForestParts, IsNode, inputs_of}
use Rattle.exec_tree.specs.declared.node.Node.{Node}
use Rattle.exec_tree.proofs.CutLemmas.{numbered_at}
use Rattle.exec_tree.proofs.forest.Forest.inputs.Goals as goal

pub returns : goal.returns
returns c =
    let node = subst (λ (f : ForestParts). IsNode f c.args.node) (sym c.self.view_is) c.requires in
    subst (λ (f : ForestParts). numbered (inputs_of f) c.args.node ≡ Some c.get.result.now) c.self.view_is
    (numbered_at (λ (n : Node). n.inputs) c.self.inside.nodes.items c.args.node c.node.inside.0 c.index.result.now c.node.view_is node.0 node.1 c.index.ensures
    ∙ ap Some (sym c.get.ensures))
