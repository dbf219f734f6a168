use Rattle.star_meaning.proofs.WalkedStates.{each_canon, each_snapshot}
use Rattle.star_meaning.proofs.laws.each_state_has_a_snapshot.Goals as goal

pub returns-clause-canon : goal.returns-clause-canon
returns-clause-canon c = each_canon

pub returns-clause-snapshot : goal.returns-clause-snapshot
returns-clause-snapshot c = each_snapshot
