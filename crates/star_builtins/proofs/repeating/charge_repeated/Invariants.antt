use Rattle.std.proofs.Common.{◌≡◌, ◌-◌}
use Rattle.std.specs.List.{repeat}
use Rattle.star_value.specs.Charge.{charged}
use Rattle.star_value.specs.Weight.{sum_of_weights}
use Rattle.star_builtins.proofs.repeating.charge_repeated.Given as goal

abbrev pub invariant-loop-time : goal.invariant-loop-time
invariant-loop-time l = charged l.meter.left (sum_of_weights (repeat (l.count - l._time) l.items)) ≡ charged l.fn.meter.left (sum_of_weights (repeat l.count l.items))
