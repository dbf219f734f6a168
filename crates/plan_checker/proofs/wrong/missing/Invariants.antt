use Rattle.std.proofs.Common.{◌&&◌, not, get_or, length, false}
use Rattle.plan_type.specs.Costs.{row_of, is_reached_in}
use Rattle.plan_checker.proofs.Missing.{MissingSo}
use Rattle.plan_checker.proofs.wrong.missing.Given as goal

abbrev pub invariant-loop-number : goal.invariant-loop-number
invariant-loop-number l = MissingSo (λ v. is_reached_in (row_of l.costs v) && not (get_or l.stood v false)) l.number (length l.costs.rows)
