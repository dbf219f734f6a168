use Rattle.std.proofs.Common.{◌≡◌, false, length, replicate, subst, sym, rules}
use Rattle.exec_tree.specs.Kept.{IsKept}
use Rattle.exec_tree.proofs.CutLemmas.{fresh_kept}
use Rattle.exec_tree.proofs.forest.Forest.new.Goals as goal

pub invariant_of-result : goal.invariant_of-result
invariant_of-result c =
    let marks : c.in_ok-cut.cut.items ≡ replicate (length c.args.nodes.items) false = search rules in
    subst (λ cut. IsKept c.args.nodes.items c.args.children.items cut c.args.ends.items) (sym marks) (fresh_kept c.args.nodes.items c.args.children.items c.args.ends.items c.requires.linked c.requires.few)
