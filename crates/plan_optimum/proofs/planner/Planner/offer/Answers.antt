use Rattle.std.proofs.Common.{arith, ◌+◌, ◌∙◌, ap}
use Rattle.plan_type.proofs.Sound.{steps_small}
use Rattle.plan_optimum.specs.Entries.{value_at}
use Rattle.plan_optimum.proofs.SiteLemmas.{child_of, value_small, way_small}
use Rattle.plan_optimum.proofs.Lookups.{ready_from, offer_is, if_true, if_false}
use Rattle.plan_optimum.proofs.planner.Planner.offer.Goals.{then-can, else-can}
use Rattle.plan_optimum.proofs.planner.Planner.offer.Goals as goal

pub entry-requires-clause-ready : goal.entry-requires-clause-ready
entry-requires-clause-ready c =
    let k = child_of c.args.costs.now c.args.at.now.node c.args.child c.requires.sound c.requires.child in let a = k.above in
    let e = ap (λ s. s.node) c.under.ensures.value in
    ready_from c.args.costs.now (c.args.at.now.node + 1) c.under.result.node c.args.self.now c.requires.ready (omega (arith, a, e))

pub overflow_add-free : goal.overflow_add-free
overflow_add-free c =
    let s = steps_small c.args.costs.now c.requires.sound c.args.child in let t = c.steps-steps.ensures in
    let v = value_small c.args.costs.now _ c.args.self.now c.under.result c.requires.sound c.requires.ready c.under.ensures.stands in
    let e = c.entry.ensures in omega (arith, s, t, v, e)

pub entry-requires-then-can-clause-ready : goal.entry-requires-then-can-clause-ready
entry-requires-then-can-clause-ready c =
    let k = child_of c.args.costs.now c.args.at.now.node c.args.child c.requires.sound c.requires.child in let a = k.above in
    let e = ap (λ s. s.node) c.under-then-can.ensures.value in
    ready_from c.args.costs.now (c.args.at.now.node + 1) c.under-then-can.result.node c.args.self.now c.requires.ready (omega (arith, a, e))

pub overflow_add-held : goal.overflow_add-held
overflow_add-held c =
    let s = steps_small c.args.costs.now c.requires.sound c.args.child in let t = c.steps-steps.ensures in
    let v = value_small c.args.costs.now _ c.args.self.now c.under-then-can.result c.requires.sound c.requires.ready c.under-then-can.ensures.stands in
    let e = c.entry-then-can.ensures in omega (arith, s, t, v, e)

pub overflow_add-held-else-can : goal.overflow_add-held-else-can
overflow_add-held-else-can c =
    let s = steps_small c.args.costs.now c.requires.sound c.args.child in let t = c.steps-steps.ensures in
    let v = value_small c.args.costs.now _ c.args.self.now c.under.result c.requires.sound c.requires.ready c.under.ensures.stands in
    let e = c.entry.ensures in
    let f = ap (λ f. f.back) c.requires.fees in
    let w = way_small c.args.costs.now _ c.args.self.now c.args.at.now c.requires.ready c.requires.stands in let b = w.back in let a = w.again in
    let n = c.requires.stands.node in let r = c.requires.sound.few in
    omega (arith, s, t, v, e, f, b, a, n, r)

pub returns : goal.returns
returns c =
    let free = ap (λ n. c.steps-steps.result + n) (c.entry.ensures ∙ ap (value_at c.args.costs.now c.args.self.now) c.under.ensures.value) in
    let is = offer_is c.args.costs.now (c.args.at.now.node + 1) c.args.self.now c.args.at.now c.args.child c.steps-steps.result (c.steps-steps.result + c.entry.result) c.if-can.held c.args.can c.requires.sound c.requires.ready c.requires.stands c.requires.child c.requires.can c.steps-steps.ensures free in
    elim c.if-can.branch [
      | then-can w ↦ is (if_true c.args.can _ _ c.if-can.held w.if-can.true (w.held-is ∙ ap (λ n. c.steps-steps.result + n) (w.entry-then-can.ensures ∙ ap (value_at c.args.costs.now c.args.self.now) w.under-then-can.ensures.value)))
      | else-can w ↦ is (if_false c.args.can _ _ c.if-can.held w.if-can.false (w.held-is ∙ ap (λ f. c.steps-steps.result + c.entry.result + f.back) c.requires.fees))
    ]
