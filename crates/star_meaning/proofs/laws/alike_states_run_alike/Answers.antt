use Rattle.star_meaning.proofs.AlikeLaw.{alike_machines, alike_states}
use Rattle.star_meaning.proofs.laws.alike_states_run_alike.Goals as goal

pub returns-clause-shown : goal.returns-clause-shown
returns-clause-shown c = alike_states

pub returns-clause-machines : goal.returns-clause-machines
returns-clause-machines c = alike_machines
