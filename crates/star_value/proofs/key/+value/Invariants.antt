use Rattle.std.proofs.Common.{◌≡◌, map, take}
use Rattle.star_value.specs.Keys as spec
use Rattle.star_value.proofs.key.+value.Given as goal

abbrev pub invariant-values_of-loop-key : goal.invariant-values_of-loop-key
invariant-values_of-loop-key l = l.values ≡ map spec.value_of (take l.key-index l.keys)
