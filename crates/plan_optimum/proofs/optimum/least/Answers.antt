use Rattle.std.proofs.Common.{◌∙◌}
use Rattle.plan_optimum.proofs.Choosing.{if_ok}
use Rattle.plan_optimum.proofs.Optimal.{least_from}
use Rattle.plan_optimum.proofs.optimum.least.Goals as goal

pub returns : goal.returns
returns c =
    if_ok c.build.result (λ plan built. least_from c.args.costs.now c.args.budget.now 0 c.fill.new.self plan c.requires.sound (c.fill.ensures.budget ∙ c.in_ok-planner.ensures.budget) c.in_ok-fill.ensures.ready built) c.build.ensures
