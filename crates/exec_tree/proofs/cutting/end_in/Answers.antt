use Rattle.std.proofs.Common.{arith, sym, ◌∙◌}
use Rattle.exec_tree.proofs.CutLemmas.{moved_here, moved_nowhere, moved_up, parent_low}
use Rattle.exec_tree.proofs.cutting.end_in.Goals as goal

pub returns-then-contains-clause-end : goal.returns-then-contains-clause-end
returns-then-contains-clause-end c =
    moved_here c.args.nodes.now c.args.failed.now c.loop-at.at c.args.end c.requires.low (omega (arith, c.at.view_is, c.loop-at-test.true)) (omega (arith, c.loop-at.invariant.0, c.requires.within))
    (sym c.contains.ensures.value ∙ c.if-contains.true) c.loop-at.invariant.1

pub loop-at-smaller : goal.loop-at-smaller
loop-at-smaller c =
    parent_low c.args.nodes.now c.loop-at.at c.at.inside.0 _ c.requires.low c.at.view_is (omega (arith, c.at.view_is, c.loop-at-test.true)) (omega (arith, c.loop-at.invariant.0, c.requires.within))

pub loop-at-preserved : goal.loop-at-preserved
loop-at-preserved c =
    moved_up c.args.nodes.now c.args.failed.now c.loop-at.at c.at.inside.0 c.args.end _ c.requires.low c.at.view_is (omega (arith, c.at.view_is, c.loop-at-test.true)) (omega (arith, c.loop-at.invariant.0, c.requires.within)) c.loop-at.invariant.0
    (sym c.contains.ensures.value ∙ c.if-contains.false) c.loop-at.invariant.1

pub returns-clause-end : goal.returns-clause-end
returns-clause-end c = moved_nowhere c.args.nodes.now c.args.failed.now c.loop-at.at c.args.end (omega (arith, c.at.view_is, c.loop-at-test.false)) c.loop-at.invariant.1
