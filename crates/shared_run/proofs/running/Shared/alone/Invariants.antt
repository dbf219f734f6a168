use Rattle.std.proofs.Common.{◌≡◌, ◌-◌, ◌^◌, min, take}
use Rattle.shared_run.specs.Numbers.{steps_along_all}
use Rattle.shared_run.proofs.running.Shared.alone.Given as goal

abbrev pub invariant-loop-way : goal.invariant-loop-way
invariant-loop-way l = l.all ≡ min (steps_along_all l.self.costs (take l.way-index l.self.ways)) (2 ^ 64 - 1)
