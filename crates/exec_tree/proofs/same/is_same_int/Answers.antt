use Rattle.exec_tree.proofs.IntLemmas.{ints_same}
use Rattle.exec_tree.proofs.same.is_same_int.Goals as goal

pub returns : goal.returns
returns c = ints_same _ _ c.ranges.a c.ranges.b
