use Rattle.std.proofs.Common.{rules, ◌≡◌, ◌∙◌, ap, subst}
use Rattle.std.specs.Prelude.{IsPermutation}
use Rattle.std.specs.List.{AllByRecursion}
use Rattle.std.proofs.lemmas.List.{take_all}
use Rattle.plan_type.specs.Costs.{children_of}
use Rattle.plan_type.specs.Plan.{named, IsPlanOf}
use Rattle.plan_type.proofs.Tested.{plan_seen}
use Rattle.plan_tests.proofs.class.+is_plan_of.Goals as goal

pub returns : goal.returns
returns t c on =
    let all = take_all c.loop-entry.entry-index c.as_slice-entry-items.result.now c.loop-entry-test.false ∙ c.as_slice-entry-items.ensures in
    let same : c.sort.new.self.items ≡ c.in_ok-children.field-0.items = search (rules, c.same.ensures on) in
    plan_seen (children_of c.args.costs.now) c.args.of c.args.plan.now c.sort.new.self.items
    (subst (AllByRecursion (λ e. IsPlanOf (children_of c.args.costs.now) e.child e.rest)) all c.loop-entry.invariant.plans)
    (subst (λ l. IsPermutation l c.sort.new.self.items) (c.loop-entry.invariant.nodes ∙ ap named all) c.in_ok-sort.ensures.permutation)
    (same ∙ c.in_ok-children.ensures)
