use Rattle.std.proofs.Common.{◌≡◌, ◌++◌, take}
use Rattle.std.specs.List.{filter}
use Rattle.plan_optimum.specs.Chosen.{flagged}
use Rattle.plan_optimum.proofs.chooser.push_flagged.Given as goal

abbrev pub invariant-loop-other : goal.invariant-loop-other
invariant-loop-other l = l.picks.items ≡ l.initial.picks.items ++ filter (flagged l.hold) (take l.other-index l.others)
