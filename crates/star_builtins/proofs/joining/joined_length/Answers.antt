use Rattle.std.proofs.Common.{arith}
use Rattle.star_builtins.proofs.JoinLemmas.{joined_sum}
use Rattle.star_builtins.proofs.joining.joined_length.Goals as goal

pub returns : goal.returns
returns c = joined_sum c.args.by.now c.first-item.result c.args.parts.now c.loop-part.part-index c.len-sum.result c.loop-part.sum _ (omega arith) c.first-item.is (omega arith) c.len-sum.ensures.len c.loop-part.invariant
