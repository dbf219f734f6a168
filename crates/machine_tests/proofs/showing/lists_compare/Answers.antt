use Rattle.machine_tests.proofs.Fitting.{lists}
use Rattle.machine_tests.proofs.showing.lists_compare.Goals as goal

pub compare-requires-clause-left : goal.compare-requires-clause-left
compare-requires-clause-left c = lists c.args.machine.now c.args.left c.in_ok-check_list.ensures

pub compare-requires-clause-right : goal.compare-requires-clause-right
compare-requires-clause-right c = lists c.args.machine.now c.args.right c.in_ok-check_list-2.ensures
