use Rattle.std.proofs.Common.{length}
use Rattle.plan_checker.proofs.Readings.{ReadSo}
use Rattle.plan_checker.proofs.read.read.Given as goal

abbrev pub invariant-loop-rest : goal.invariant-loop-rest
invariant-loop-rest l = ReadSo l.text l.lines.items l.rest l.before

abbrev pub decreases-loop-rest : goal.decreases-loop-rest
decreases-loop-rest l = length l.rest
