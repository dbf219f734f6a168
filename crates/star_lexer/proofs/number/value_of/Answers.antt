use Rattle.std.proofs.Common.{sym, ap, ◌∙◌, ◌+◌, ◌*◌, ◌<◌, arith, drop}
use Rattle.std.specs.Char.{digit_value}
use Rattle.std.specs.Str.Parse.{digits_value_after}
use Rattle.star_lexer.specs.Numbers.{widest}
use Rattle.star_lexer.proofs.Numbers.{too_wide, drop_here}
use Rattle.star_lexer.proofs.number.value_of.Goals as goal

pub returns-in_default : goal.returns-in_default
returns-in_default c =
    let v = c.digit-digit.ensures.value in
    let past : widest < c.loop-c.value * c.args.radix + digit_value c.c-item.result = omega (arith, c.in-Some.ensures) in
    too_wide c.args.radix c.loop-c.value c.c-item.result (drop (c.loop-c.c-index + 1) c.args.digits.now) c.args.digits.now c.requires.some past (ap (digits_value_after c.args.radix c.loop-c.value) (sym (drop_here _ _ _ c.loop-c-test.true c.c-item.is)) ∙ c.loop-c.invariant.0)

pub returns-in_default-2 : goal.returns-in_default-2
returns-in_default-2 c =
    let past : widest < c.loop-c.value * c.args.radix + digit_value c.c-item.result = omega (arith, c.in_default.ensures) in
    too_wide c.args.radix c.loop-c.value c.c-item.result (drop (c.loop-c.c-index + 1) c.args.digits.now) c.args.digits.now c.requires.some past (ap (digits_value_after c.args.radix c.loop-c.value) (sym (drop_here _ _ _ c.loop-c-test.true c.c-item.is)) ∙ c.loop-c.invariant.0)
