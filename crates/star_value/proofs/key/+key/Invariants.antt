use Rattle.std.proofs.Common.{◌≡◌, ◌++◌, map, drop}
use Rattle.std.specs.Prelude.{option_map}
use Rattle.star_value.specs.Keys as spec
use Rattle.star_value.proofs.key.+key.Given as goal

abbrev pub invariant-keys_of-loop-value : goal.invariant-keys_of-loop-value
invariant-keys_of-loop-value l = option_map (λ more. l.keys ++ more) (spec.all_some (map spec.key_of (drop l.value-index l.values))) ≡ spec.all_some (map spec.key_of l.values)
