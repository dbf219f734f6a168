use Rattle.std.proofs.Common.{◌<◌, ◌≤◌, length, arith}
use Rattle.snapshot_codec.proofs.DefinedLaws.{tables_end, tables_more}
use Rattle.snapshot_codec.proofs.refers.tables_of.Goals as goal

pub loop-node-preserved : goal.loop-node-preserved
loop-node-preserved c =
    let within : c.loop-node.node-index < length c.args.ran.now = omega arith in
    tables_more c.args.program.now c.args.ran.now c.loop-node.node-index c.node-item.result c.loop-node.tables.items _ c.in_ok-made.made within c.node-item.is c.in_ok-made.ensures c.in_ok-push.ensures.items c.loop-node.invariant

pub returns : goal.returns
returns c =
    let past : length c.args.ran.now ≤ c.loop-node.node-index = omega arith in
    tables_end c.args.program.now c.args.ran.now c.loop-node.node-index c.loop-node.tables.items past c.loop-node.invariant
