use Rattle.std.proofs.Common.{take}
use Rattle.plan_type.specs.Plan.{HoldsNone}
use Rattle.plan_tests.proofs.class.holds_none.Given as goal

abbrev pub invariant-loop-entry : goal.invariant-loop-entry
invariant-loop-entry l = HoldsNone (take l.entry-index l.entry-items)
