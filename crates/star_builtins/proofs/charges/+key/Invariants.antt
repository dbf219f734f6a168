use Rattle.std.proofs.Common.{◌≡◌, map, drop}
use Rattle.star_value.specs.Charge.{charged}
use Rattle.star_value.specs.Keys.{value_of}
use Rattle.star_value.specs.Weight as spec
use Rattle.star_builtins.proofs.charges.+key.Given as goal

abbrev pub invariant-charge_keys-loop-key : goal.invariant-charge_keys-loop-key
invariant-charge_keys-loop-key l = charged l.meter.left (spec.sum_of_weights (map value_of (drop l.key-index l.keys))) ≡ charged l.fn.meter.left (spec.sum_of_weights (map value_of l.keys))
