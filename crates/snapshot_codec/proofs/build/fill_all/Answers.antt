use Rattle.std.proofs.Common.{◌∙◌, arith}
use Rattle.snapshot_codec.proofs.Building.{fill_fit, fill_keys, fill_there, fills_end, fills_next, fills_room, fills_start}
use Rattle.snapshot_codec.proofs.build.fill_all.Goals as goal

pub loop-object-init : goal.loop-object-init
loop-object-init c = fills_start c.args.machine.now c.args.objects c.requires.empty

pub id_of-id-requires : goal.id_of-id-requires
id_of-id-requires c =
    let low = fills_room c.args.machine.now c.loop-object.machine c.args.objects c.pop.new.self c.in-Some.object c.loop-object.objects c.in-Some.ensures c.loop-object.invariant c.requires.few in
    let same = c.len-place.ensures in
    omega (arith, low, same)

pub fill-requires-clause-there : goal.fill-requires-clause-there
fill-requires-clause-there c =
    fill_there c.args.machine.now c.loop-object.machine c.args.objects c.pop.new.self c.in-Some.object c.loop-object.objects c.in-Some.ensures c.loop-object.invariant c.id_of-id.result (c.id_of-id.ensures ∙ c.len-place.ensures)

pub fill-requires-clause-fit : goal.fill-requires-clause-fit
fill-requires-clause-fit c =
    fill_fit c.args.machine.now c.loop-object.machine c.args.objects c.pop.new.self c.in-Some.object c.loop-object.objects c.in-Some.ensures c.loop-object.invariant c.id_of-id.result (c.id_of-id.ensures ∙ c.len-place.ensures) c.requires.fit

pub fill-requires-clause-keys : goal.fill-requires-clause-keys
fill-requires-clause-keys c =
    fill_keys c.args.machine.now c.loop-object.machine c.args.objects c.pop.new.self c.in-Some.object c.loop-object.objects c.in-Some.ensures c.loop-object.invariant c.id_of-id.result (c.id_of-id.ensures ∙ c.len-place.ensures) c.requires.keys

pub loop-object-preserved : goal.loop-object-preserved
loop-object-preserved c =
    fills_next c.args.machine.now c.loop-object.machine c.args.objects c.pop.new.self c.in-Some.object c.loop-object.objects c.in-Some.ensures c.loop-object.invariant c.id_of-id.result (c.id_of-id.ensures ∙ c.len-place.ensures) c.fill.new.machine c.in_ok-fill.ensures

pub returns : goal.returns
returns c = fills_end c.args.machine.now c.loop-object.machine c.args.objects c.loop-object.objects c.in_default.ensures.0 c.loop-object.invariant
