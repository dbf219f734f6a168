use Rattle.std.proofs.Common.{rules, arith, ap}
use Rattle.plan_type.specs.declared.plan.Plan.{the_lemmas}
use Rattle.plan_type.specs.Costs.{blocks_of}
use Rattle.plan_type.specs.Plan.{greatest}
use Rattle.plan_type.proofs.PlanParts.{rest_peak, peak_parts, greatest_above}
use Rattle.plan_type.proofs.Entries.{entry_at, greatest_step, peak_one, within_more}
use Rattle.plan_type.proofs.plan.Plan.+peak_from.Goals as goal

pub loop-entry-init : goal.loop-entry-init
loop-entry-init t c =
    let e = ap (greatest (rest_peak (blocks_of c.args.costs.now c.args.block) c.args.of c.args.used) c.args.used) c.as_slice-entry-items.ensures in
    let p = peak_parts (blocks_of c.args.costs.now c.args.block) c.args.self.now c.args.of c.args.used in
    let a = greatest_above (rest_peak (blocks_of c.args.costs.now c.args.block) c.args.of c.args.used) c.args.used c.as_slice-entry-items.result.now in
    record { least = omega arith; whole = omega (arith, e, p, a) }

pub peak_from-requires : goal.peak_from-requires
peak_from-requires t c =
    let a = entry_at c.args.costs.now c.args.of c.args.self.now c.requires.sound c.requires.class c.as_slice-entry-items.result.now c.as_slice-entry-items.ensures
    c.loop-entry.entry-index c.entry-item.result c.loop-entry-test.true c.entry-item.is in
    let here = within_more c.args.costs.now c.args.of c.entry-item.result.child c.args.used c.blocks-2.result c.entry-item.result.hold c.chosen-before.result c.requires.used a.parent (c.blocks-2.ensures.most c.requires.block) c.chosen-before.ensures in
    (search (rules, the_lemmas), (c.requires.sound, (a.order, (c.requires.block, here))))

pub loop-entry-preserved : goal.loop-entry-preserved
loop-entry-preserved t c =
    let least = c.loop-entry.invariant.least in
    let s = greatest_step (rest_peak (blocks_of c.args.costs.now c.args.block) c.args.of c.args.used) c.args.used c.as_slice-entry-items.result.now c.loop-entry.entry-index c.entry-item.result c.loop-entry-test.true c.entry-item.is in
    let e = peak_one (blocks_of c.args.costs.now c.args.block) c.args.of c.args.used c.entry-item.result c.blocks-2.result c.chosen-before.result c.peak_from.result c.blocks-2.ensures.value c.chosen-before.ensures c.peak_from.ensures in
    let m = c.max-greatest.ensures in
    let w = c.loop-entry.invariant.whole in
    record { least = omega (arith, m, least); whole = omega (arith, s, e, m, w) }
