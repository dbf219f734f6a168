use Rattle.std.proofs.Common.{◌≡◌, drop}
use Rattle.star_value.specs.Charge.{charged}
use Rattle.star_value.specs.Weight.{sum_of_weights}
use Rattle.star_builtins.specs.MethodRows.{flat_pairs}
use Rattle.star_builtins.proofs.dict_walks.charge_pairs.Given as goal

abbrev pub invariant-loop-place : goal.invariant-loop-place
invariant-loop-place l = charged l.meter.left (sum_of_weights (flat_pairs (drop l.place l.pairs))) ≡ charged l.fn.meter.left (sum_of_weights (flat_pairs l.pairs))
