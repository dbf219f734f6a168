use Rattle.std.proofs.Common.{arith}
use Rattle.std.proofs.lemmas.List.{ext_get_or}
use Rattle.plan_tests.proofs.class.same.Goals as goal

pub returns : goal.returns
returns c on = ext_get_or 0 c.args.left.now c.args.right.now (omega arith) (λ k lt. c.loop-at.invariant k (omega arith))
