use Rattle.std.proofs.Common.{◌∙◌}
use Rattle.plan_optimum.proofs.SiteLemmas.{site_of, child_at}
use Rattle.plan_optimum.proofs.planner.Planner.offer_all.Goals as goal

pub offer-requires-clause-child : goal.offer-requires-clause-child
offer-requires-clause-child c =
    child_at c.args.costs.now c.args.at.now.node c.children-child-items.result.now c.loop-child.child-index c.child-item.result c.requires.sound
    (c.children-child-items.ensures ∙ (site_of c.args.costs.now _ c.args.at.now.node c.args.self.now c.requires.ready c.requires.stands.node).children) c.loop-child-test.true c.child-item.is
