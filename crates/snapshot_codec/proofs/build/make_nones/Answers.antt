use Rattle.snapshot_codec.proofs.Building.{nones_done, nones_more}
use Rattle.snapshot_codec.proofs.build.make_nones.Goals as goal

pub loop-preserved : goal.loop-preserved
loop-preserved c = nones_more c.loop.values _ c.args.count c.loop.counter c.loop-test.true c.in_ok-push.ensures.ok c.loop.invariant

pub returns : goal.returns
returns c = nones_done c.loop.values c.args.count c.loop.counter c.loop-test.false c.loop.invariant
