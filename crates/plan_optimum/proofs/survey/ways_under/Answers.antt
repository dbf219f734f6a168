use Rattle.std.proofs.Common.{arith}
use Rattle.plan_type.proofs.Sound.{steps_small}
use Rattle.plan_optimum.specs.Sites.{no_way}
use Rattle.plan_optimum.proofs.SiteLemmas.{small_item}
use Rattle.plan_optimum.proofs.survey.ways_under.Goals as goal

pub overflow_add-way : goal.overflow_add-way
overflow_add-way c =
    let s = steps_small c.args.costs.now c.requires.sound c.args.child in let e = c.steps-steps.ensures in
    let w = small_item c.args.parent c.args.above.now c.loop-way.way-index no_way c.requires.small c.loop-way-test.true in
    let b = w.back in omega (arith, s, e, b)
