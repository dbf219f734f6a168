use Rattle.snapshot_codec.proofs.Building.{started_few, started_is, started_none, started_room}
use Rattle.snapshot_codec.proofs.build.started.Goals as goal

pub enter_all-requires : goal.enter_all-requires
enter_all-requires c = started_few c.new-machine.result c.args.ran.now c.new-machine.ensures c.requires.few

pub make_all-requires-clause-none : goal.make_all-requires-clause-none
make_all-requires-clause-none c = started_none c.new-machine.result c.enter_all.new.machine c.args.ran.now c.new-machine.ensures c.in_ok-enter_all.ensures

pub make_all-requires-clause-room : goal.make_all-requires-clause-room
make_all-requires-clause-room c = started_room c.new-machine.result c.enter_all.new.machine c.args.ran.now c.new-machine.ensures c.in_ok-enter_all.ensures c.args.objects.now c.requires.room

pub returns : goal.returns
returns c = started_is c.new-machine.result c.enter_all.new.machine c.args.ran.now c.new-machine.ensures c.in_ok-enter_all.ensures c.make_all.new.machine c.args.objects.now c.in_ok-make_all.ensures
