use Rattle.std.proofs.Common.{◌+◌, ◌∷◌, drop, sym, ap, ◌∙◌}
use Rattle.std.proofs.lemmas.List.{drop_more, drop_all}
use Rattle.exec_tree.proofs.StepLemmas.{one_cell, all_cells}
use Rattle.exec_tree.proofs.growth.Growth.follow.Goals as goal

pub loop-cell-preserved : goal.loop-cell-preserved
loop-cell-preserved c =
    let cells = c.as_slice-cell-items.result.now in
    let i = c.loop-cell.cell-index in
    one_cell c.args.version.now c.args.self.now.nodes.items c.loop-cell.self.nodes.items _ c.loop-cell.self.children.items _ c.loop-cell.self.hashes.items _ c.cell-item.result (drop i cells) (drop (i + 1) cells) c.in_ok-inputs.inputs c.loop-cell.at c.in_ok-at.at i
    c.loop-cell.invariant
    (drop_more cells i c.cell-item.result c.loop-cell-test.true ∙ ap (λ x. x ∷ drop (i + 1) cells) (sym c.cell-item.is))
    c.in_ok-inputs.ensures c.in_ok-at.ensures.grows c.in_ok-at.ensures.known c.in_ok-at.ensures.low c.in_ok-at.ensures.at c.in_ok-at.ensures.few

pub returns-clause-known : goal.returns-clause-known
returns-clause-known c =
    let cells = c.as_slice-cell-items.result.now in
    (all_cells c.args.version.now c.args.self.now.nodes.items _ _ _ _ _ _ c.loop-cell.invariant (drop_all c.loop-cell.cell-index cells c.loop-cell-test.false)).0
