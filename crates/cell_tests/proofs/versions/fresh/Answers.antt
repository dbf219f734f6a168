use Rattle.cell_tests.proofs.Fresh.{nothing_valid}
use Rattle.cell_tests.proofs.versions.fresh.Goals as goal

pub returns : goal.returns
returns c = nothing_valid c.args.program.now c.new-machine.result c.new-machine.ensures c.ran-nodes.ensures.kept
