use Rattle.std.proofs.Common.{◌≡◌, min, ◌-◌, ◌^◌, take}
use Rattle.star_value.specs.Weight as spec
use Rattle.star_value.proofs.value.+depth.Given as goal

abbrev pub invariant-greatest_depth-loop-value : goal.invariant-greatest_depth-loop-value
invariant-greatest_depth-loop-value l = l.most ≡ min (spec.greatest_depth (take l.value-index l.values)) (2 ^ 32 - 1)
