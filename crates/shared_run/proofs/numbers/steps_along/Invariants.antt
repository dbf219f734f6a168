use Rattle.std.proofs.Common.{◌≡◌, ◌-◌, ◌^◌, min, take}
use Rattle.shared_run.specs.Numbers.{steps_along}
use Rattle.shared_run.proofs.numbers.steps_along.Given as goal

abbrev pub invariant-loop-node : goal.invariant-loop-node
invariant-loop-node l = l.all ≡ min (steps_along l.costs (take l.node-index l.way)) (2 ^ 64 - 1)
