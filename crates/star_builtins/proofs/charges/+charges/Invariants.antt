use Rattle.std.proofs.Common.{◌≡◌, drop}
use Rattle.star_value.specs.Charge.{charged}
use Rattle.star_value.specs.Weight.{sum_of_weights}
use Rattle.star_builtins.proofs.charges.+charges.Given as goal

abbrev pub invariant-charge_items-loop-value : goal.invariant-charge_items-loop-value
invariant-charge_items-loop-value l = charged l.meter.left (sum_of_weights (drop l.value-index l.values)) ≡ charged l.fn.meter.left (sum_of_weights l.fn.values)
