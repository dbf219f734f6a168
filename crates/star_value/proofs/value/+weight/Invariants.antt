use Rattle.std.proofs.Common.{◌≡◌, min, ◌-◌, ◌^◌, take}
use Rattle.star_value.specs.Weight as spec
use Rattle.star_value.proofs.value.+weight.Given as goal

abbrev pub invariant-sum_of_weights-loop-value : goal.invariant-sum_of_weights-loop-value
invariant-sum_of_weights-loop-value l = l.sum ≡ min (spec.sum_of_weights (take l.value-index l.values)) (2 ^ 64 - 1)
