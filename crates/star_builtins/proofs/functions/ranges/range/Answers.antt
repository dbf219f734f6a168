use Rattle.std.proofs.Common.{◌≡◌, length, arith, ap}
use Rattle.star_builtins.proofs.RangeRows.{answers_as, range_one, range_two, range_three}
use Rattle.star_builtins.proofs.functions.ranges.range.Goals as goal

pub returns-in-len1-clause-gives : goal.returns-in-len1-clause-gives
returns-in-len1-clause-gives c = λ s.
    let len : length c.args.values.now ≡ 1 = omega (arith, ap length c.as_slice.ensures) in
    answers_as _ _ _ s (range_one s c.args.values.now c.stop-item.result len (rw c.as_slice.ensures at c.stop-item.is)) (rw c.int_of.ensures at (c.ranged.ensures.gives s))

pub returns-in-len2-clause-gives : goal.returns-in-len2-clause-gives
returns-in-len2-clause-gives c = λ s.
    let len : length c.args.values.now ≡ 2 = omega (arith, ap length c.as_slice.ensures) in
    answers_as _ _ _ s
    (range_two s c.args.values.now c.start-item.result c.stop-item-then-this-lt3.result len (rw c.as_slice.ensures at c.start-item.is) (rw c.as_slice.ensures at c.stop-item-then-this-lt3.is))
    (rw (c.int_of-in-len2.ensures, c.int_of-in-len2-2.ensures) at (c.ranged-in-len2.ensures.gives s))

pub returns-in-len3-clause-gives : goal.returns-in-len3-clause-gives
returns-in-len3-clause-gives c = λ s.
    let len : length c.args.values.now ≡ 3 = omega (arith, ap length c.as_slice.ensures) in
    answers_as _ _ _ s
    (range_three s c.args.values.now c.start-item-then-this-lt4.result c.stop-item-then-this-lt4.result c.step-item.result len
    (rw c.as_slice.ensures at c.start-item-then-this-lt4.is) (rw c.as_slice.ensures at c.stop-item-then-this-lt4.is) (rw c.as_slice.ensures at c.step-item.is))
    (rw (c.int_of-in-len3.ensures, c.int_of-in-len3-2.ensures, c.int_of-in-len3-3.ensures) at (c.ranged-in-len3.ensures.gives s))
