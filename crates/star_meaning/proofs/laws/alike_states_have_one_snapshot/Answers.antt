use Rattle.star_meaning.proofs.Canonical.{one_canon, one_snapshot}
use Rattle.star_meaning.proofs.laws.alike_states_have_one_snapshot.Goals as goal

pub returns-clause-canon : goal.returns-clause-canon
returns-clause-canon c = one_canon

pub returns-clause-bytes : goal.returns-clause-bytes
returns-clause-bytes c = one_snapshot
