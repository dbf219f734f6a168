use Rattle.plan_type.specs.Costs.{blocks_of}
use Rattle.plan_checker.proofs.Tables.{OverSo}
use Rattle.plan_checker.proofs.over.over_budget.Given as goal

abbrev pub invariant-loop-line : goal.invariant-loop-line
invariant-loop-line l = OverSo (blocks_of l.costs l.budget.block) l.budget.most l.lines l.line-index l.last.items l.held.items
