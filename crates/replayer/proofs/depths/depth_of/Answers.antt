use Rattle.std.proofs.Common.{arith}
use Rattle.replayer.proofs.PathLemmas.{depth_goes, depth_ends}
use Rattle.replayer.proofs.depths.depth_of.Goals as goal

pub loop-at-init : goal.loop-at-init
loop-at-init c = record {
  within = c.requires.node;
  small = omega arith;
  deep = omega arith;
}

pub parent-at-requires : goal.parent-at-requires
parent-at-requires c = (omega (arith, c.at.view_is, c.loop-at-test.true), c.loop-at.invariant.within)

pub overflow_add-depth : goal.overflow_add-depth
overflow_add-depth c = omega (arith, c.loop-at.invariant.small, c.requires.small, c.at.view_is, c.loop-at-test.true)

pub loop-at-preserved : goal.loop-at-preserved
loop-at-preserved c = record {
  within = omega (arith, c.loop-at.invariant.within, c.parent-at.ensures.low);
  small = omega (arith, c.loop-at.invariant.small, c.parent-at.ensures.low);
  deep = depth_goes c.args.forest.now c.loop-at.depth c.loop-at.at c.parent-at.result c.args.node (omega (arith, c.at.view_is, c.loop-at-test.true)) c.loop-at.invariant.within c.parent-at.ensures.parent c.parent-at.ensures.low c.loop-at.invariant.deep;
}

pub returns : goal.returns
returns c = depth_ends c.args.forest.now c.loop-at.depth c.loop-at.at c.args.node (omega (arith, c.at.view_is, c.loop-at-test.false)) c.loop-at.invariant.deep
