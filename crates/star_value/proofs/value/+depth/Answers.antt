use Rattle.std.proofs.Common.{◌-◌, ◌^◌}
use Rattle.star_value.proofs.WeightLemmas.{deepest_more}
use Rattle.star_value.proofs.value.+depth.Goals as goal

pub greatest_depth-loop-value-preserved : goal.greatest_depth-loop-value-preserved
greatest_depth-loop-value-preserved t c = deepest_more _ _ _ _ _ _ (2 ^ 32 - 1) c.loop-value-test.true c.value-item.is c.depth.ensures c.loop-value.invariant c.max-most.ensures
