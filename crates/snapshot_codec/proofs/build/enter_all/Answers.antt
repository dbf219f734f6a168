use Rattle.std.proofs.Common.{◌<◌, ◌≤◌, length, arith}
use Rattle.snapshot_codec.proofs.Building.{enter_room, entered_all, entered_more, entered_none}
use Rattle.snapshot_codec.proofs.build.enter_all.Goals as goal

pub loop-node-init : goal.loop-node-init
loop-node-init c = entered_none c.args.machine.now c.args.nodes.now

pub enter-requires : goal.enter-requires
enter-requires c =
    let within : c.loop-node.node-index < length c.args.nodes.now = omega arith in
    enter_room c.args.machine.now c.loop-node.machine c.args.nodes.now c.loop-node.node-index within c.requires c.loop-node.invariant

pub loop-node-preserved : goal.loop-node-preserved
loop-node-preserved c =
    let within : c.loop-node.node-index < length c.args.nodes.now = omega arith in
    entered_more c.args.machine.now c.loop-node.machine c.args.nodes.now c.loop-node.node-index c.enter.new.self _ within c.node-item.is c.loop-node.invariant c.in_ok-enter.ensures.ok

pub returns : goal.returns
returns c =
    let past : length c.args.nodes.now ≤ c.loop-node.node-index = omega arith in
    entered_all c.args.machine.now c.loop-node.machine c.args.nodes.now c.loop-node.node-index past c.loop-node.invariant
