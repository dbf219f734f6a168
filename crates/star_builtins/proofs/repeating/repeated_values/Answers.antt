use Rattle.std.proofs.Common.{◌≡◌, length, arith, ◌∙◌, sym}
use Rattle.std.proofs.lemmas.Bool.Decides.{nat_tests}
use Rattle.star_builtins.proofs.PartLemmas.{repeat_nothing, repeat_more}
use Rattle.star_builtins.proofs.repeating.repeated_values.Goals as goal

pub returns-then-items-eq0 : goal.returns-then-items-eq0
returns-then-items-eq0 c =
    let none : length c.args.items.now ≡ 0 = grind (arith, nat_tests) in
    c.new-repeated.ensures ∙ sym (repeat_nothing c.args.count c.args.items.now none)

pub loop-time-preserved : goal.loop-time-preserved
loop-time-preserved c = rw (c.in_ok-append.ensures, c.in_ok-copy_values.ensures) (repeat_more c.loop-time.repeated c.args.items.now _ c.loop-time._time c.args.count c.loop-time-test.true c.loop-time.invariant)
