use Rattle.std.proofs.Common.{rules, sym, ◌∙◌}
use Rattle.exec_tree.specs.KeyLaws.{same_key-Decides}
use Rattle.exec_tree.proofs.GrowthLemmas.{children_long, row_at, child_read, found_keys, none_in}
use Rattle.exec_tree.proofs.growth.Growth.child.Goals as goal

pub index-requires : goal.index-requires
index-requires c =
    let long = children_long _ _ _ c.requires.grows in
    search (rules, long, c.at.view_is)

pub is_at-requires-clause-least : goal.is_at-requires-clause-least
is_at-requires-clause-least c =
    let row = c.as_slice-children.ensures ∙ row_at _ _ _ c.requires.grows c.args.at _ _ c.at.view_is c.requires.within c.index.ensures in
    (child_read c.args.self.now.nodes.items c.args.at _ row _ _ c.loop-child-test.true c.child-item.is).0

pub is_at-requires-clause-most : goal.is_at-requires-clause-most
is_at-requires-clause-most c =
    let row = c.as_slice-children.ensures ∙ row_at _ _ _ c.requires.grows c.args.at _ _ c.at.view_is c.requires.within c.index.ensures in
    (child_read c.args.self.now.nodes.items c.args.at _ row _ _ c.loop-child-test.true c.child-item.is).1

pub returns-then-is_at-clause-low : goal.returns-then-is_at-clause-low
returns-then-is_at-clause-low c =
    let row = c.as_slice-children.ensures ∙ row_at _ _ _ c.requires.grows c.args.at _ _ c.at.view_is c.requires.within c.index.ensures in
    (child_read c.args.self.now.nodes.items c.args.at _ row _ _ c.loop-child-test.true c.child-item.is).1

pub returns-then-is_at-clause-found : goal.returns-then-is_at-clause-found
returns-then-is_at-clause-found c =
    let row = c.as_slice-children.ensures ∙ row_at _ _ _ c.requires.grows c.args.at _ _ c.at.view_is c.requires.within c.index.ensures in
    let child = child_read c.args.self.now.nodes.items c.args.at _ row _ _ c.loop-child-test.true c.child-item.is in
    found_keys _ _ _ c.requires.grows c.args.at _ _ child ((same_key-Decides _ _).0 (sym c.is_at.ensures ∙ c.if-is_at.true))

pub returns-clause-none : goal.returns-clause-none
returns-clause-none c =
    let row = c.as_slice-children.ensures ∙ row_at _ _ _ c.requires.grows c.args.at _ _ c.at.view_is c.requires.within c.index.ensures in
    none_in _ _ _ c.requires.grows c.args.at _ c.requires.within _ c.loop-child.child-index row c.loop-child.invariant c.loop-child-test.false
