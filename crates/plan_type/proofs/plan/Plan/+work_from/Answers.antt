use Rattle.std.proofs.Common.{rules, arith, ◌<◌, ◌+◌, length, ap}
use Rattle.std.specs.Prelude.{if◌then◌else◌}
use Rattle.plan_type.specs.declared.plan.Plan.{the_lemmas}
use Rattle.plan_type.specs.Costs.{steps_of}
use Rattle.plan_type.specs.Plan.{work_at, listed_work, IsPlanFrom}
use Rattle.plan_type.proofs.Works.{rest_work, work_parts}
use Rattle.plan_type.proofs.Entries.{at_one}
use Rattle.plan_type.proofs.plan.Plan.+work_from.Goals as goal

pub loop-entry-init : goal.loop-entry-init
loop-entry-init t c = record {
  counts = omega (arith, ap length c.as_slice-entry-items.ensures);
  whole = let a = ap (listed_work (rest_work (steps_of c.args.costs.now) c.args.back) c.args.back) c.as_slice-entry-items.ensures in
      let b = work_parts (steps_of c.args.costs.now) c.args.self.now c.args.back in omega (arith, a, b);
}

pub work_from-total-requires : goal.work_from-total-requires
work_from-total-requires t c =
    let a = at_one c.args.costs.now c.requires.class.node c.args.back c.loop-entry.total c.args.self.now c.requires.sound c.requires.class.plan c.as_slice-entry-items.result.now c.as_slice-entry-items.ensures
    c.loop-entry.entry-index c.entry-item.result c.loop-entry-test.true c.entry-item.is c.loop-entry.invariant.whole c.requires.small in
    let above = a.above in let steps = a.steps in let room = a.room in let e = c.steps-steps.ensures in
    let here : IsPlanFrom c.args.costs.now c.entry-item.result.rest c.steps-steps.result = record { node = c.entry-item.result.child; plan = a.order; low = omega (arith, above, steps, e) } in
    let small : work_at (steps_of c.args.costs.now) c.entry-item.result.rest c.steps-steps.result < 9223372036854775808 =
    let f = ap (work_at (steps_of c.args.costs.now) c.entry-item.result.rest) e in
    let h = ap (λ b. work_at (steps_of c.args.costs.now) c.entry-item.result.rest (if b then steps_of c.args.costs.now c.entry-item.result.child else c.args.back + steps_of c.args.costs.now c.entry-item.result.child)) c.if-entry.true in
    omega (arith, f, h, room) in
    (search (rules, the_lemmas), (c.requires.sound, (here, small)))

pub overflow_add-back : goal.overflow_add-back
overflow_add-back t c =
    let a = at_one c.args.costs.now c.requires.class.node c.args.back c.loop-entry.total c.args.self.now c.requires.sound c.requires.class.plan c.as_slice-entry-items.result.now c.as_slice-entry-items.ensures
    c.loop-entry.entry-index c.entry-item.result c.loop-entry-test.true c.entry-item.is c.loop-entry.invariant.whole c.requires.small in
    let steps = a.steps in let e = c.steps-steps.ensures in let low = c.requires.class.low in let above = a.above in let most = a.most in omega (arith, steps, e, low, above, most)

pub work_from-total-requires-else-entry : goal.work_from-total-requires-else-entry
work_from-total-requires-else-entry t c =
    let a = at_one c.args.costs.now c.requires.class.node c.args.back c.loop-entry.total c.args.self.now c.requires.sound c.requires.class.plan c.as_slice-entry-items.result.now c.as_slice-entry-items.ensures
    c.loop-entry.entry-index c.entry-item.result c.loop-entry-test.true c.entry-item.is c.loop-entry.invariant.whole c.requires.small in
    let above = a.above in let steps = a.steps in let room = a.room in let e = c.steps-steps.ensures in let low = c.requires.class.low in
    let here : IsPlanFrom c.args.costs.now c.entry-item.result.rest (c.args.back + c.steps-steps.result) = record { node = c.entry-item.result.child; plan = a.order; low = omega (arith, above, steps, e, low) } in
    let small : work_at (steps_of c.args.costs.now) c.entry-item.result.rest (c.args.back + c.steps-steps.result) < 9223372036854775808 =
    let f = ap (λ n. work_at (steps_of c.args.costs.now) c.entry-item.result.rest (c.args.back + n)) e in
    let h = ap (λ b. work_at (steps_of c.args.costs.now) c.entry-item.result.rest (if b then steps_of c.args.costs.now c.entry-item.result.child else c.args.back + steps_of c.args.costs.now c.entry-item.result.child)) c.if-entry.false in
    omega (arith, f, h, room) in
    (search (rules, the_lemmas), (c.requires.sound, (here, small)))
