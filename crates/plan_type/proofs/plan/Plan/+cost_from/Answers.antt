use Rattle.std.proofs.Common.{rules, arith, ◌≡◌, ◌+◌, ◌-◌, ◌*◌, ◌∙◌, length, ap, sym, refl, true, false, Bool}
use Rattle.std.specs.Prelude.{if◌then◌else◌, not, ◌&&◌}
use Rattle.plan_type.specs.declared.plan.Plan.{the_lemmas}
use Rattle.plan_type.proofs.CostFits.{cost_from_all, cost_now, turn}
use Rattle.plan_type.proofs.plan.Plan.+cost_from.Goals as goal

pub loop-entry-init : goal.loop-entry-init
loop-entry-init t c = record {
  counts = let e = ap length c.as_slice-entry-items.ensures in let l = c.len-left.ensures in omega (arith, e, l);
  whole = let a = cost_from_all c.args.costs.now c.args.budget.now c.args.of c.args.back c.args.again c.args.self.now c.as_slice-entry-items.result.now c.as_slice-entry-items.ensures in omega (arith, a);
}

pub price-load-requires-clause-blocks : goal.price-load-requires-clause-blocks
price-load-requires-clause-blocks t c on =
    let counts : c.loop-entry.left - 1 + (c.loop-entry.entry-index + 1) ≡ length c.as_slice-entry-items.result.now = (let n = c.loop-entry.invariant.counts in let lt = c.loop-entry-test.true in omega (arith, n, lt)) in
    let a = cost_now c.args.costs.now c.args.budget.now c.args.of c.args.back c.args.again c.loop-entry.total c.loop-entry.held _ c.args.self.now c.requires.sound c.requires.budget c.requires.class c.requires.fits c.as_slice-entry-items.result.now c.as_slice-entry-items.ensures
    c.loop-entry.entry-index (c.loop-entry.left - 1) c.entry-item.result c.loop-entry-test.true c.entry-item.is counts c.loop-entry.invariant.whole in
    let b = c.blocks-blocks.ensures.value in let own = a.own on in omega (arith, own, b)

left_of : (hold held : Bool) → (hold && not held) ≡ true → hold ≡ true
left_of true held h = refl
left_of false held h = h

pub price-save-requires-clause-blocks : goal.price-save-requires-clause-blocks
price-save-requires-clause-blocks t c on =
    let counts : c.loop-entry.left - 1 + (c.loop-entry.entry-index + 1) ≡ length c.as_slice-entry-items.result.now = (let n = c.loop-entry.invariant.counts in let lt = c.loop-entry-test.true in omega (arith, n, lt)) in
    let a = cost_now c.args.costs.now c.args.budget.now c.args.of c.args.back c.args.again c.loop-entry.total c.loop-entry.held _ c.args.self.now c.requires.sound c.requires.budget c.requires.class c.requires.fits c.as_slice-entry-items.result.now c.as_slice-entry-items.ensures
    c.loop-entry.entry-index (c.loop-entry.left - 1) c.entry-item.result c.loop-entry-test.true c.entry-item.is counts c.loop-entry.invariant.whole in
    let b = c.blocks-blocks.ensures.value in let e = c.begins.ensures in let own = a.own (left_of c.entry-item.result.hold c.loop-entry.held (sym e ∙ on)) in omega (arith, own, b)

pub overflow_add-back : goal.overflow_add-back
overflow_add-back t c =
    let counts : c.loop-entry.left - 1 + (c.loop-entry.entry-index + 1) ≡ length c.as_slice-entry-items.result.now = (let n = c.loop-entry.invariant.counts in let lt = c.loop-entry-test.true in omega (arith, n, lt)) in
    let a = cost_now c.args.costs.now c.args.budget.now c.args.of c.args.back c.args.again c.loop-entry.total c.loop-entry.held _ c.args.self.now c.requires.sound c.requires.budget c.requires.class c.requires.fits c.as_slice-entry-items.result.now c.as_slice-entry-items.ensures
    c.loop-entry.entry-index (c.loop-entry.left - 1) c.entry-item.result c.loop-entry-test.true c.entry-item.is counts c.loop-entry.invariant.whole in
    let s = a.steps in let e = c.steps-steps.ensures in let m = a.entry.most in let k = a.entry.above in let l = c.requires.low.0 in omega (arith, s, e, m, k, l)

pub cost_from-rest-requires : goal.cost_from-rest-requires
cost_from-rest-requires t c =
    let counts : c.loop-entry.left - 1 + (c.loop-entry.entry-index + 1) ≡ length c.as_slice-entry-items.result.now = (let n = c.loop-entry.invariant.counts in let lt = c.loop-entry-test.true in omega (arith, n, lt)) in
    let a = cost_now c.args.costs.now c.args.budget.now c.args.of c.args.back c.args.again c.loop-entry.total c.loop-entry.held _ c.args.self.now c.requires.sound c.requires.budget c.requires.class c.requires.fits c.as_slice-entry-items.result.now c.as_slice-entry-items.ensures
    c.loop-entry.entry-index (c.loop-entry.left - 1) c.entry-item.result c.loop-entry-test.true c.entry-item.is counts c.loop-entry.invariant.whole in
    let w = turn c.args.costs.now c.args.budget.now c.args.of c.args.back c.args.again c.loop-entry.total c.loop-entry.held _ c.as_slice-entry-items.result.now c.loop-entry.entry-index (c.loop-entry.left - 1) c.entry-item.result
    c.steps-steps.result c.blocks-blocks.result c.price-load.result c.price-save.result _ _ c.chosen-under.result c.chosen-loads.result a c.requires.low c.blocks-blocks.ensures.value c.steps-steps.ensures c.price-load.ensures.value c.price-load.ensures.most
    (c.price-save.ensures.value ∙ ap (λ b. if b then c.args.budget.now.save * c.blocks-blocks.result else 0) c.begins.ensures) c.chosen-under.ensures c.chosen-loads.ensures refl refl in
    let small = c.requires.small in let part = w.small in
    (search (rules, the_lemmas), (c.requires.sound, (w.order, (c.requires.budget, (w.fits, (w.low, omega (arith, small, part)))))))

pub overflow_add-total : goal.overflow_add-total
overflow_add-total t c =
    let counts : c.loop-entry.left - 1 + (c.loop-entry.entry-index + 1) ≡ length c.as_slice-entry-items.result.now = (let n = c.loop-entry.invariant.counts in let lt = c.loop-entry-test.true in omega (arith, n, lt)) in
    let a = cost_now c.args.costs.now c.args.budget.now c.args.of c.args.back c.args.again c.loop-entry.total c.loop-entry.held _ c.args.self.now c.requires.sound c.requires.budget c.requires.class c.requires.fits c.as_slice-entry-items.result.now c.as_slice-entry-items.ensures
    c.loop-entry.entry-index (c.loop-entry.left - 1) c.entry-item.result c.loop-entry-test.true c.entry-item.is counts c.loop-entry.invariant.whole in
    let w = turn c.args.costs.now c.args.budget.now c.args.of c.args.back c.args.again c.loop-entry.total c.loop-entry.held _ c.as_slice-entry-items.result.now c.loop-entry.entry-index (c.loop-entry.left - 1) c.entry-item.result
    c.steps-steps.result c.blocks-blocks.result c.price-load.result c.price-save.result c.chosen-next.result _ c.chosen-under.result c.chosen-loads.result a c.requires.low c.blocks-blocks.ensures.value c.steps-steps.ensures c.price-load.ensures.value c.price-load.ensures.most
    (c.price-save.ensures.value ∙ ap (λ b. if b then c.args.budget.now.save * c.blocks-blocks.result else 0) c.begins.ensures) c.chosen-under.ensures c.chosen-loads.ensures c.chosen-next.ensures refl in
    let small = c.requires.small in let room = w.room in let r = c.cost_from-rest.ensures in omega (arith, small, room, r)

pub overflow_add-total-in-loop-entry : goal.overflow_add-total-in-loop-entry
overflow_add-total-in-loop-entry t c =
    let counts : c.loop-entry.left - 1 + (c.loop-entry.entry-index + 1) ≡ length c.as_slice-entry-items.result.now = (let n = c.loop-entry.invariant.counts in let lt = c.loop-entry-test.true in omega (arith, n, lt)) in
    let a = cost_now c.args.costs.now c.args.budget.now c.args.of c.args.back c.args.again c.loop-entry.total c.loop-entry.held _ c.args.self.now c.requires.sound c.requires.budget c.requires.class c.requires.fits c.as_slice-entry-items.result.now c.as_slice-entry-items.ensures
    c.loop-entry.entry-index (c.loop-entry.left - 1) c.entry-item.result c.loop-entry-test.true c.entry-item.is counts c.loop-entry.invariant.whole in
    let w = turn c.args.costs.now c.args.budget.now c.args.of c.args.back c.args.again c.loop-entry.total c.loop-entry.held _ c.as_slice-entry-items.result.now c.loop-entry.entry-index (c.loop-entry.left - 1) c.entry-item.result
    c.steps-steps.result c.blocks-blocks.result c.price-load.result c.price-save.result c.chosen-next.result _ c.chosen-under.result c.chosen-loads.result a c.requires.low c.blocks-blocks.ensures.value c.steps-steps.ensures c.price-load.ensures.value c.price-load.ensures.most
    (c.price-save.ensures.value ∙ ap (λ b. if b then c.args.budget.now.save * c.blocks-blocks.result else 0) c.begins.ensures) c.chosen-under.ensures c.chosen-loads.ensures c.chosen-next.ensures refl in
    let small = c.requires.small in let room = w.room in let r = c.cost_from-rest.ensures in omega (arith, small, room, r)

pub overflow_add-total-in-loop-entry-2 : goal.overflow_add-total-in-loop-entry-2
overflow_add-total-in-loop-entry-2 t c =
    let counts : c.loop-entry.left - 1 + (c.loop-entry.entry-index + 1) ≡ length c.as_slice-entry-items.result.now = (let n = c.loop-entry.invariant.counts in let lt = c.loop-entry-test.true in omega (arith, n, lt)) in
    let a = cost_now c.args.costs.now c.args.budget.now c.args.of c.args.back c.args.again c.loop-entry.total c.loop-entry.held _ c.args.self.now c.requires.sound c.requires.budget c.requires.class c.requires.fits c.as_slice-entry-items.result.now c.as_slice-entry-items.ensures
    c.loop-entry.entry-index (c.loop-entry.left - 1) c.entry-item.result c.loop-entry-test.true c.entry-item.is counts c.loop-entry.invariant.whole in
    let w = turn c.args.costs.now c.args.budget.now c.args.of c.args.back c.args.again c.loop-entry.total c.loop-entry.held _ c.as_slice-entry-items.result.now c.loop-entry.entry-index (c.loop-entry.left - 1) c.entry-item.result
    c.steps-steps.result c.blocks-blocks.result c.price-load.result c.price-save.result c.chosen-next.result c.chosen.result c.chosen-under.result c.chosen-loads.result a c.requires.low c.blocks-blocks.ensures.value c.steps-steps.ensures c.price-load.ensures.value c.price-load.ensures.most
    (c.price-save.ensures.value ∙ ap (λ b. if b then c.args.budget.now.save * c.blocks-blocks.result else 0) c.begins.ensures) c.chosen-under.ensures c.chosen-loads.ensures c.chosen-next.ensures c.chosen.ensures in
    let small = c.requires.small in let room = w.room in let r = c.cost_from-rest.ensures in omega (arith, small, room, r)

pub overflow_add-total-in-loop-entry-3 : goal.overflow_add-total-in-loop-entry-3
overflow_add-total-in-loop-entry-3 t c =
    let counts : c.loop-entry.left - 1 + (c.loop-entry.entry-index + 1) ≡ length c.as_slice-entry-items.result.now = (let n = c.loop-entry.invariant.counts in let lt = c.loop-entry-test.true in omega (arith, n, lt)) in
    let a = cost_now c.args.costs.now c.args.budget.now c.args.of c.args.back c.args.again c.loop-entry.total c.loop-entry.held _ c.args.self.now c.requires.sound c.requires.budget c.requires.class c.requires.fits c.as_slice-entry-items.result.now c.as_slice-entry-items.ensures
    c.loop-entry.entry-index (c.loop-entry.left - 1) c.entry-item.result c.loop-entry-test.true c.entry-item.is counts c.loop-entry.invariant.whole in
    let w = turn c.args.costs.now c.args.budget.now c.args.of c.args.back c.args.again c.loop-entry.total c.loop-entry.held _ c.as_slice-entry-items.result.now c.loop-entry.entry-index (c.loop-entry.left - 1) c.entry-item.result
    c.steps-steps.result c.blocks-blocks.result c.price-load.result c.price-save.result c.chosen-next.result c.chosen.result c.chosen-under.result c.chosen-loads.result a c.requires.low c.blocks-blocks.ensures.value c.steps-steps.ensures c.price-load.ensures.value c.price-load.ensures.most
    (c.price-save.ensures.value ∙ ap (λ b. if b then c.args.budget.now.save * c.blocks-blocks.result else 0) c.begins.ensures) c.chosen-under.ensures c.chosen-loads.ensures c.chosen-next.ensures c.chosen.ensures in
    let small = c.requires.small in let room = w.room in let r = c.cost_from-rest.ensures in omega (arith, small, room, r)

pub loop-entry-preserved : goal.loop-entry-preserved
loop-entry-preserved t c =
    let counts : c.loop-entry.left - 1 + (c.loop-entry.entry-index + 1) ≡ length c.as_slice-entry-items.result.now = (let n = c.loop-entry.invariant.counts in let lt = c.loop-entry-test.true in omega (arith, n, lt)) in
    let a = cost_now c.args.costs.now c.args.budget.now c.args.of c.args.back c.args.again c.loop-entry.total c.loop-entry.held _ c.args.self.now c.requires.sound c.requires.budget c.requires.class c.requires.fits c.as_slice-entry-items.result.now c.as_slice-entry-items.ensures
    c.loop-entry.entry-index (c.loop-entry.left - 1) c.entry-item.result c.loop-entry-test.true c.entry-item.is counts c.loop-entry.invariant.whole in
    let w = turn c.args.costs.now c.args.budget.now c.args.of c.args.back c.args.again c.loop-entry.total c.loop-entry.held _ c.as_slice-entry-items.result.now c.loop-entry.entry-index (c.loop-entry.left - 1) c.entry-item.result
    c.steps-steps.result c.blocks-blocks.result c.price-load.result c.price-save.result c.chosen-next.result c.chosen.result c.chosen-under.result c.chosen-loads.result a c.requires.low c.blocks-blocks.ensures.value c.steps-steps.ensures c.price-load.ensures.value c.price-load.ensures.most
    (c.price-save.ensures.value ∙ ap (λ b. if b then c.args.budget.now.save * c.blocks-blocks.result else 0) c.begins.ensures) c.chosen-under.ensures c.chosen-loads.ensures c.chosen-next.ensures c.chosen.ensures in
    let next = w.next in let r = c.cost_from-rest.ensures in
    record { counts = counts; whole = omega (arith, next, r) }
