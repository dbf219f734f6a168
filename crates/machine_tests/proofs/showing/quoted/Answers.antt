use Rattle.machine_tests.proofs.Fitting.{lists}
use Rattle.machine_tests.proofs.showing.quoted.Goals as goal

pub show-requires : goal.show-requires
show-requires c = lists c.args.machine.now c.in_ok-id.id c.in_ok-check_list.ensures
