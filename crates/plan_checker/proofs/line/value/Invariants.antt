use Rattle.plan_checker.proofs.Readings.{ValueSo}
use Rattle.plan_checker.proofs.line.value.Given as goal

abbrev pub invariant-loop-digit : goal.invariant-loop-digit
invariant-loop-digit l = ValueSo l.digits l.digit-index l.value
