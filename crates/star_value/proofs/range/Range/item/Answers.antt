use Rattle.std.proofs.Common.{rules, arith}
use Rattle.std.specs.Prelude.{FitsSigned}
use Rattle.std.specs.Int.{w128}
use Rattle.star_value.proofs.RangeItems.{distance_fits, above_is, below_is}
use Rattle.star_value.proofs.range.Range.item.Goals as goal

pub overflow_mul-distance : goal.overflow_mul-distance
overflow_mul-distance c =
    let r = c.args.self.now in
    let start : FitsSigned w128 r.start = search rules in
    let stop : FitsSigned w128 r.stop = search rules in
    let step : FitsSigned w128 r.step = search rules in
    let short = distance_fits r _ _ start stop step c.unsigned_abs.ensures.value c.requires in
    omega arith

pub returns-then-self-gt0 : goal.returns-then-self-gt0
returns-then-self-gt0 c =
    let r = c.args.self.now in
    let start : FitsSigned w128 r.start = search rules in
    let stop : FitsSigned w128 r.stop = search rules in
    let step : FitsSigned w128 r.step = search rules in
    above_is r _ _ start stop step c.unsigned_abs.ensures.value c.requires _ c.saturating_add_unsigned.ensures c.if-self-gt0.true

pub returns-else-self-gt0 : goal.returns-else-self-gt0
returns-else-self-gt0 c =
    let r = c.args.self.now in
    let start : FitsSigned w128 r.start = search rules in
    let stop : FitsSigned w128 r.stop = search rules in
    let step : FitsSigned w128 r.step = search rules in
    below_is r _ _ start stop step c.unsigned_abs.ensures.value c.requires _ c.saturating_sub_unsigned.ensures c.if-self-gt0.false
