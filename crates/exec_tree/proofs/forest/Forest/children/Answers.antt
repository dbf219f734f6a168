use Rattle.std.proofs.Common.{◌≡◌, ◌≤◌, length, subst, sym, ◌∙◌, rules}
use Rattle.exec_tree.specs.Forests.{ForestParts, children_of}
use Rattle.exec_tree.proofs.CutLemmas.{kept_long, kept_row}
use Rattle.exec_tree.proofs.forest.Forest.children.Goals as goal

pub index-requires : goal.index-requires
index-requires c =
    let most = subst (λ (f : ForestParts). c.args.node ≤ length f.nodes) (sym c.self.view_is) c.requires in
    let long = kept_long _ _ _ _ c.self.invariant in
    search (rules, long, most, c.node.view_is)

pub returns : goal.returns
returns c =
    let most = subst (λ (f : ForestParts). c.args.node ≤ length f.nodes) (sym c.self.view_is) c.requires in
    subst (λ (f : ForestParts). c.as_slice.result.now ≡ children_of f c.args.node) c.self.view_is
    (c.as_slice.ensures ∙ kept_row _ _ _ _ c.self.invariant c.args.node c.node.inside.0 _ c.node.view_is most c.index.ensures)
