use Rattle.std.proofs.Common.{ap, ◌∙◌}
use Rattle.plan_type.specs.Costs.{tree_of}
use Rattle.plan_type.specs.Prices.{cost_at}
use Rattle.plan_type.proofs.CostFits.{cost_small}
use Rattle.plan_type.proofs.Works.{plain}
use Rattle.plan_type.proofs.plan.Plan.cost.Goals as goal

pub cost_from-requires-clause-small : goal.cost_from-requires-clause-small
cost_from-requires-clause-small c = cost_small c.args.costs.now c.args.budget.now c.requires.sound c.requires.budget c.args.self.now c.requires.class.orders c.requires.fits

pub returns-clause-free : goal.returns-clause-free
unfolding tree_of
returns-clause-free c save load =
    c.cost_from.ensures ∙ ap (λ s. cost_at (tree_of c.args.costs.now c.args.budget.now.block) (record { save = s; load = c.args.budget.now.load }) c.args.self.now 0 0 0) save
    ∙ ap (λ l. cost_at (tree_of c.args.costs.now c.args.budget.now.block) (record { save = 0; load = l }) c.args.self.now 0 0 0) load
    ∙ plain (tree_of c.args.costs.now c.args.budget.now.block) c.args.self.now 0 0
