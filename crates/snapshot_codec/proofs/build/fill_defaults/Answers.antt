use Rattle.snapshot_codec.proofs.Building.{set_fit, set_kind, set_within, sets_end, sets_next, sets_start}
use Rattle.snapshot_codec.proofs.build.fill_defaults.Goals as goal

pub loop-value-init : goal.loop-value-init
loop-value-init c = sets_start c.args.machine.now c.args.id c.args.values c.requires.kind c.requires.none

pub function_set-requires-clause-kind : goal.function_set-requires-clause-kind
function_set-requires-clause-kind c = set_kind c.args.machine.now c.loop-value.machine c.args.id c.args.values c.pop.new.self c.in-Some.value c.loop-value.values c.in-Some.ensures c.loop-value.invariant

pub function_set-requires-clause-within : goal.function_set-requires-clause-within
function_set-requires-clause-within c = set_within c.args.machine.now c.loop-value.machine c.args.id c.args.values c.pop.new.self c.in-Some.value c.loop-value.values c.in-Some.ensures c.loop-value.invariant c.len-place.result c.len-place.ensures

pub function_set-requires-clause-fit : goal.function_set-requires-clause-fit
function_set-requires-clause-fit c = set_fit c.args.machine.now c.loop-value.machine c.args.id c.args.values c.pop.new.self c.in-Some.value c.loop-value.values c.in-Some.ensures c.loop-value.invariant c.requires.fit

pub loop-value-preserved : goal.loop-value-preserved
loop-value-preserved c =
    sets_next c.args.machine.now c.loop-value.machine c.args.id c.args.values c.pop.new.self c.in-Some.value c.loop-value.values c.in-Some.ensures c.loop-value.invariant c.function_set.new.self c.len-place.result c.len-place.ensures c.function_set.ensures

pub returns : goal.returns
returns c = sets_end c.args.machine.now c.loop-value.machine c.args.id c.args.values c.loop-value.values c.in_default.ensures.0 c.loop-value.invariant
