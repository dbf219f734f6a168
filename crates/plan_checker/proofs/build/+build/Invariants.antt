use Rattle.std.proofs.Common.{length, ◌-◌}
use Rattle.plan_checker.proofs.Built.{BuildSo}
use Rattle.plan_checker.proofs.build.+build.Given as goal

abbrev pub decreases-build : goal.decreases-build
decreases-build l = length l.lines.now

abbrev pub invariant-loop-alloc : goal.invariant-loop-alloc
invariant-loop-alloc l = BuildSo l.lines l.above l.at l.entries.items

abbrev pub decreases-loop-alloc : goal.decreases-loop-alloc
decreases-loop-alloc l = length l.lines - l.at
