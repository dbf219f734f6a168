use Rattle.std.proofs.Common.{◌<◌, ◌≤◌, length, arith}
use Rattle.snapshot_codec.proofs.Building.{made_all, made_more, made_none, make_room}
use Rattle.snapshot_codec.proofs.build.make_all.Goals as goal

pub loop-object-init : goal.loop-object-init
loop-object-init c = made_none c.args.machine.now c.args.objects.now c.requires.none

pub make_one-requires : goal.make_one-requires
make_one-requires c =
    let within : c.loop-object.object-index < length c.args.objects.now = omega arith in
    make_room c.args.machine.now c.loop-object.machine c.args.objects.now c.loop-object.object-index within c.requires.room c.loop-object.invariant

pub loop-object-preserved : goal.loop-object-preserved
loop-object-preserved c =
    let within : c.loop-object.object-index < length c.args.objects.now = omega arith in
    made_more c.args.machine.now c.loop-object.machine c.args.objects.now c.loop-object.object-index c.make_one.new.machine c.object-item.result within c.object-item.is c.loop-object.invariant c.in_ok-make_one.ensures

pub returns : goal.returns
returns c =
    let past : length c.args.objects.now ≤ c.loop-object.object-index = omega arith in
    made_all c.args.machine.now c.loop-object.machine c.args.objects.now c.loop-object.object-index past c.loop-object.invariant
