use Rattle.std.proofs.Common.{rules}
use Rattle.exec_tree.proofs.GrowthLemmas.{children_long, added}
use Rattle.exec_tree.proofs.growth.Growth.add.Goals as goal

pub index_mut-requires : goal.index_mut-requires
index_mut-requires c =
    let long = children_long _ _ _ c.requires.grows in
    search (rules, long, c.at.view_is)

pub returns-clause-grows : goal.returns-clause-grows
returns-clause-grows c =
    added _ _ _ c.requires.grows _ _ _ c.args.cell.now c.args.inputs.now c.args.at _ c.args.hash _ _ _ _ c.requires.within c.requires.hash c.requires.other
    (search rules) c.in_ok-push-2.ensures.items c.in_ok-push-3.ensures.items c.new.ensures c.at.view_is c.index_mut.ensures.value c.in_ok-add.ensures.ok (search rules)
