use Rattle.star_meaning.proofs.ToldMachines.{bytes_tell, snapshots_tell}
use Rattle.star_meaning.proofs.laws.bytes_tell_the_state.Goals as goal

pub returns-clause-bytes : goal.returns-clause-bytes
returns-clause-bytes c = bytes_tell

pub returns-clause-alike : goal.returns-clause-alike
returns-clause-alike c = snapshots_tell
