use Rattle.snapshot_codec.proofs.Building.{bind_fit, binds_end, binds_next, binds_start}
use Rattle.snapshot_codec.proofs.build.bind_all.Goals as goal

pub loop-name-init : goal.loop-name-init
loop-name-init c = binds_start c.args.machine.now c.args.globals c.requires.none

pub set_global-requires : goal.set_global-requires
set_global-requires c = bind_fit c.args.machine.now c.loop-name.machine c.args.globals c.pop.new.self c.in-Some.name c.in-Some.value c.loop-name.globals c.in-Some.ensures c.loop-name.invariant c.requires.fit

pub loop-name-preserved : goal.loop-name-preserved
loop-name-preserved c =
    binds_next c.args.machine.now c.loop-name.machine c.args.globals c.pop.new.self c.in-Some.name c.in-Some.value c.loop-name.globals c.in-Some.ensures c.loop-name.invariant c.set_global.new.self c.requires.names c.in_ok-set_global.ensures.ok

pub returns : goal.returns
returns c = binds_end c.args.machine.now c.loop-name.machine c.args.globals c.loop-name.globals c.in_default.ensures.0 c.loop-name.invariant
