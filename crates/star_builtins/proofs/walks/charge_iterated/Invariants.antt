use Rattle.std.proofs.Common.{◌≡◌, drop}
use Rattle.star_value.specs.Charge.{charged}
use Rattle.star_value.specs.Weight.{sum_of_weights}
use Rattle.star_builtins.specs.Walks.{given}
use Rattle.star_builtins.proofs.walks.charge_iterated.Given as goal

abbrev pub invariant-loop-place : goal.invariant-loop-place
invariant-loop-place l = charged l.meter.left (sum_of_weights (drop l.place (given l.machine.state l.of))) ≡ charged l.fn.meter.left (sum_of_weights (given l.machine.state l.of))
