use Rattle.std.proofs.Common.{rules, ◌∙◌, sym, ap}
use Rattle.plan_checker.specs.Refusals.{wrong_child}
use Rattle.plan_checker.specs.Verdicts.{over_budget}
use Rattle.plan_checker.proofs.Accepted.{accepted}
use Rattle.plan_checker.proofs.verdict.judged.Goals as goal

pub cost-cost-requires-clause-class : goal.cost-cost-requires-clause-class
cost-cost-requires-clause-class c =
    (accepted c.args.costs.now c.args.budget.now c.args.text.now c.in_ok-lines.lines.items c.deref-3.result.now c.in_ok-plan.plan c.in_ok-plan.field-0-1 c.in_ok-lines.ensures c.deref-3.ensures.value
    (ap (wrong_child c.args.costs.now) (sym c.deref.ensures.value) ∙ sym c.in_ok-node.ensures ∙ (search rules))
    (ap (over_budget c.args.costs.now c.args.budget.now) (sym c.deref-2.ensures.value) ∙ sym c.in_ok-node-2.ensures ∙ (search rules))
    c.in_ok-plan.ensures.lines_of c.in_ok-plan.ensures.under).serves.plan

pub cost-cost-requires-clause-fits : goal.cost-cost-requires-clause-fits
cost-cost-requires-clause-fits c =
    (accepted c.args.costs.now c.args.budget.now c.args.text.now c.in_ok-lines.lines.items c.deref-3.result.now c.in_ok-plan.plan c.in_ok-plan.field-0-1 c.in_ok-lines.ensures c.deref-3.ensures.value
    (ap (wrong_child c.args.costs.now) (sym c.deref.ensures.value) ∙ sym c.in_ok-node.ensures ∙ (search rules))
    (ap (over_budget c.args.costs.now c.args.budget.now) (sym c.deref-2.ensures.value) ∙ sym c.in_ok-node-2.ensures ∙ (search rules))
    c.in_ok-plan.ensures.lines_of c.in_ok-plan.ensures.under).serves.fits

pub peak-peak-requires-clause-class : goal.peak-peak-requires-clause-class
peak-peak-requires-clause-class c =
    (accepted c.args.costs.now c.args.budget.now c.args.text.now c.in_ok-lines.lines.items c.deref-3.result.now c.in_ok-plan.plan c.in_ok-plan.field-0-1 c.in_ok-lines.ensures c.deref-3.ensures.value
    (ap (wrong_child c.args.costs.now) (sym c.deref.ensures.value) ∙ sym c.in_ok-node.ensures ∙ (search rules))
    (ap (over_budget c.args.costs.now c.args.budget.now) (sym c.deref-2.ensures.value) ∙ sym c.in_ok-node-2.ensures ∙ (search rules))
    c.in_ok-plan.ensures.lines_of c.in_ok-plan.ensures.under).serves.plan

pub returns-clause-clean : goal.returns-clause-clean
returns-clause-clean c = record {
  lines = c.in_ok-lines.lines.items;
  read = c.in_ok-lines.ensures;
  right = ap (wrong_child c.args.costs.now) (sym c.deref.ensures.value) ∙ sym c.in_ok-node.ensures ∙ (search rules);
  fits = ap (over_budget c.args.costs.now c.args.budget.now) (sym c.deref-2.ensures.value) ∙ sym c.in_ok-node-2.ensures ∙ (search rules);
}

pub returns-clause-ok : goal.returns-clause-ok
returns-clause-ok c =
    let known = accepted c.args.costs.now c.args.budget.now c.args.text.now c.in_ok-lines.lines.items c.deref-3.result.now c.in_ok-plan.plan c.in_ok-plan.field-0-1 c.in_ok-lines.ensures c.deref-3.ensures.value
    (ap (wrong_child c.args.costs.now) (sym c.deref.ensures.value) ∙ sym c.in_ok-node.ensures ∙ (search rules))
    (ap (over_budget c.args.costs.now c.args.budget.now) (sym c.deref-2.ensures.value) ∙ sym c.in_ok-node-2.ensures ∙ (search rules))
    c.in_ok-plan.ensures.lines_of c.in_ok-plan.ensures.under in
    record { serves = known.serves; is = known.is; cost = c.cost-cost.ensures.cost; peak = c.peak-peak.ensures }
