use Rattle.snapshot_codec.proofs.Building.{built_bare, built_fit, built_few, built_globals, built_is, built_low, built_none, built_room}
use Rattle.snapshot_codec.proofs.build.built.Goals as goal

pub started-requires-clause-few : goal.started-requires-clause-few
started-requires-clause-few c = built_few c.args.ran _ c.args.globals c.args.objects _ c.as_slice-nodes.ensures c.as_slice-contents.ensures c.requires

pub started-requires-clause-room : goal.started-requires-clause-room
started-requires-clause-room c = built_room c.args.ran _ c.args.globals c.args.objects _ c.as_slice-nodes.ensures c.as_slice-contents.ensures c.requires

pub fill_all-requires-clause-empty : goal.fill_all-requires-clause-empty
fill_all-requires-clause-empty c = built_bare c.args.ran _ c.args.globals c.args.objects _ c.as_slice-nodes.ensures c.as_slice-contents.ensures c.requires c.in_ok-machine.machine c.in_ok-machine.ensures

pub fill_all-requires-clause-few : goal.fill_all-requires-clause-few
fill_all-requires-clause-few c = built_low c.args.ran _ c.args.globals c.args.objects _ c.as_slice-nodes.ensures c.as_slice-contents.ensures c.requires

pub fill_all-requires-clause-fit : goal.fill_all-requires-clause-fit
fill_all-requires-clause-fit c = built_fit c.args.ran _ c.args.globals c.args.objects _ c.as_slice-nodes.ensures c.as_slice-contents.ensures c.requires

pub fill_all-requires-clause-keys : goal.fill_all-requires-clause-keys
fill_all-requires-clause-keys c = c.requires.keys

pub bind_all-requires-clause-none : goal.bind_all-requires-clause-none
bind_all-requires-clause-none c = built_none c.args.ran _ c.args.globals c.args.objects _ c.as_slice-nodes.ensures c.as_slice-contents.ensures c.requires c.in_ok-machine.machine c.in_ok-machine.ensures c.fill_all.new.machine c.in_ok-fill_all.ensures

pub bind_all-requires-clause-fit : goal.bind_all-requires-clause-fit
bind_all-requires-clause-fit c = built_globals c.args.ran _ c.args.globals c.args.objects _ c.as_slice-nodes.ensures c.as_slice-contents.ensures c.requires c.in_ok-machine.machine c.in_ok-machine.ensures c.fill_all.new.machine c.in_ok-fill_all.ensures

pub bind_all-requires-clause-names : goal.bind_all-requires-clause-names
bind_all-requires-clause-names c = c.requires.names

pub returns : goal.returns
returns c =
    built_is c.args.ran _ c.args.globals c.args.objects _ c.as_slice-nodes.ensures c.as_slice-contents.ensures c.requires c.in_ok-machine.machine c.in_ok-machine.ensures c.fill_all.new.machine c.in_ok-fill_all.ensures c.bind_all.new.machine c.in_ok-bind_all.ensures
