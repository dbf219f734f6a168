use Rattle.std.proofs.Common.{◌≡◌, length, arith, ◌∙◌, sym}
use Rattle.std.proofs.lemmas.Bool.Decides.{nat_tests}
use Rattle.star_builtins.proofs.PartLemmas.{repeat_nothing, repeat_more}
use Rattle.star_builtins.proofs.repeating.repeated_text.Goals as goal

pub returns-then-len-eq0 : goal.returns-then-len-eq0
returns-then-len-eq0 c =
    let none : length c.args.text.now ≡ 0 = grind (arith, nat_tests) in
    c.new-repeated.ensures ∙ sym (repeat_nothing c.args.count c.args.text.now none)

pub loop-time-preserved : goal.loop-time-preserved
loop-time-preserved c = rw c.in_ok-push_text.ensures.ok (repeat_more c.loop-time.repeated c.args.text.now _ c.loop-time._time c.args.count c.loop-time-test.true c.loop-time.invariant)
