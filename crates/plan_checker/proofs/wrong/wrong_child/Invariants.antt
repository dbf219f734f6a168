use Rattle.plan_checker.proofs.Tables.{WrongSo}
use Rattle.plan_checker.proofs.wrong.wrong_child.Given as goal

abbrev pub invariant-loop-line : goal.invariant-loop-line
invariant-loop-line l = WrongSo l.costs l.lines l.line-index l.last.items l.stood.items
