use Rattle.std.proofs.Common.{rules, arith, ◌+◌, ap, length, get_or, refl}
use Rattle.plan_type.specs.Costs.{IsSoundRow}
use Rattle.plan_type.proofs.SoundBelow.{SoundBelow, item_row, below_none, below_more, below_all, too_long, upto}
use Rattle.plan_type.proofs.costs.Costs.sound.Goals as goal

pub returns-then-not-is_row_sound : goal.returns-then-not-is_row_sound
returns-then-not-is_row_sound c =
    let is = item_row c.args.self.now c.as_slice-row-items.result.now c.loop-at.at c.row-item.result c.as_slice-row-items.ensures c.loop-at-test.true c.row-item.is in
    ((λ none. absurd (cc)), (λ sound. let one = sound.rows (c.loop-at.at + 1) c.row-item.result is in let h = c.is_row_sound.ensures.1 one in search rules))

pub returns-then-above-eq-LONGEST : goal.returns-then-above-eq-LONGEST
returns-then-above-eq-LONGEST c =
    let is = item_row c.args.self.now c.as_slice-row-items.result.now c.loop-at.at c.row-item.result c.as_slice-row-items.ensures c.loop-at-test.true c.row-item.is in
    let one : IsSoundRow c.args.self.now (c.loop-at.at + 1) c.row-item.result = search rules in
    let above = ap (λ r. get_or c.loop-at.lengths r.parent 0) c.row.view_is in
    ((λ none. absurd (cc)), (λ sound. absurd (too_long c.args.self.now c.loop-at.at c.loop-at.lengths c.row-item.result _ c.loop-at.invariant is one.parent above c.if-above-eq-LONGEST.true sound)))

pub loop-at-preserved : goal.loop-at-preserved
loop-at-preserved c =
    let is = item_row c.args.self.now c.as_slice-row-items.result.now c.loop-at.at c.row-item.result c.as_slice-row-items.ensures c.loop-at-test.true c.row-item.is in
    let one : IsSoundRow c.args.self.now (c.loop-at.at + 1) c.row-item.result = search rules in
    let above = ap (λ r. get_or c.loop-at.lengths r.parent 0) c.row.view_is in
    let most = ap length c.as_slice-row-items.ensures in
    below_more c.args.self.now c.loop-at.at c.loop-at.lengths c.row-item.result _ c.loop-at.invariant is one above c.if-above-eq-LONGEST.false (omega (arith, most))

pub loop-at-init : goal.loop-at-init
loop-at-init c = below_none c.args.self.now _ refl refl

pub returns : goal.returns
returns c =
    let most = ap length c.as_slice-row-items.ensures in
    let all : SoundBelow c.args.self.now (length c.args.self.now.rows) c.loop-at.lengths = upto c.args.self.now c.loop-at.at _ c.loop-at.lengths c.loop-at.invariant (omega (arith, most)) in
    ((λ _. below_all c.args.self.now c.loop-at.lengths (omega arith) all), (λ _. refl))
