use Rattle.std.proofs.Common.{◌≤◌, length, arith}
use Rattle.snapshot_codec.proofs.Building.{dict_all, dict_fit, dict_kind, dict_more, dict_none}
use Rattle.snapshot_codec.proofs.build.fill_dict.Goals as goal

pub loop-place-init : goal.loop-place-init
loop-place-init c = dict_none c.args.machine.now c.args.id c.args.pairs.now c.requires.there

pub dict_put-requires-clause-kind : goal.dict_put-requires-clause-kind
dict_put-requires-clause-kind c = dict_kind c.args.machine.now c.loop-place.machine c.args.id c.requires.there c.args.pairs.now c.loop-place.place c.loop-place.invariant

pub dict_put-requires-clause-fit : goal.dict_put-requires-clause-fit
dict_put-requires-clause-fit c =
    dict_fit c.args.machine.now c.loop-place.machine c.args.id c.requires.there c.args.pairs.now c.loop-place.place (c.at.result.0.now, c.at.result.1.now) c.in_ok-held.held c.requires.fit c.at.ensures c.in_ok-held.ensures c.loop-place.invariant

pub loop-place-preserved : goal.loop-place-preserved
loop-place-preserved c =
    dict_more c.args.machine.now c.loop-place.machine c.args.id c.requires.there c.args.pairs.now c.loop-place.place c.dict_put.new.self (c.at.result.0.now, c.at.result.1.now) c.in_ok-copied.copied c.in_ok-held.held c.requires.keys c.at.ensures c.in_ok-copied.ensures c.in_ok-held.ensures c.loop-place.invariant c.in_ok-dict_put.ensures.ok

pub returns : goal.returns
returns c =
    let past : length c.args.pairs.now ≤ c.loop-place.place = omega arith in
    dict_all c.args.machine.now c.loop-place.machine c.args.id c.requires.there c.args.pairs.now c.loop-place.place past c.loop-place.invariant
