use Rattle.std.proofs.Common.{◌∙◌, ap}
use Rattle.plan_optimum.specs.Sites.{ways_under}
use Rattle.plan_optimum.proofs.SiteLemmas.{sites_push}
use Rattle.plan_optimum.proofs.survey.survey.Goals as goal

pub loop-number-preserved : goal.loop-number-preserved
loop-number-preserved c =
    sites_push c.args.costs.now c.args.budget.now c.loop-number.number c.parent-parent.result c.loop-number.sites c.push-in-loop-number.new.self c.in_ok-ways.ways c.in_ok-site-2.field-0 c.requires.sound c.requires.budget c.loop-number.invariant
    c.loop-number.auto.number c.parent-parent.ensures c.in_ok-push-2.ensures.ok (c.in_ok-ways.ensures ∙ ap (ways_under c.args.costs.now c.args.budget.now c.parent-parent.result c.loop-number.number) c.ways.ensures) c.in_ok-site-2.ensures
