use Rattle.plan_optimum.specs.Sites.{AreSites}
use Rattle.plan_optimum.proofs.survey.survey.Given as goal

abbrev pub invariant-loop-number : goal.invariant-loop-number
invariant-loop-number l = AreSites l.costs l.budget l.number l.sites
