use Rattle.std.proofs.Common.{rules, arith}
use Rattle.plan_checker.proofs.Numbers.{no_number}
use Rattle.plan_checker.proofs.Readings.{value_small, value_more, value_all}
use Rattle.plan_checker.proofs.line.value.Goals as goal

pub overflow_mul-value : goal.overflow_mul-value
overflow_mul-value c = let s = value_small c.args.digits.now c.loop-digit.digit-index c.loop-digit.value c.loop-digit.invariant (omega arith) c.requires in omega (arith, s)

pub overflow_add-value : goal.overflow_add-value
overflow_add-value c =
    let s = value_small c.args.digits.now c.loop-digit.digit-index c.loop-digit.value c.loop-digit.invariant (omega arith) c.requires in
    let f = c.type_inv.digits c.loop-digit.digit-index in let e = c.from.ensures in omega (arith, s, f, e)

pub returns-then-not-is_ascii_digit : goal.returns-then-not-is_ascii_digit
returns-then-not-is_ascii_digit c = no_number c.args.digits.now c.loop-digit.digit-index (omega arith) (search rules)

pub loop-digit-preserved : goal.loop-digit-preserved
loop-digit-preserved c = value_more c.args.digits.now c.loop-digit.digit-index c.loop-digit.value c.from.result c.loop-digit.invariant (omega arith) (search rules) c.from.ensures

pub returns : goal.returns
returns c = value_all c.args.digits.now c.loop-digit.digit-index c.loop-digit.value c.loop-digit.invariant (omega arith) c.requires
