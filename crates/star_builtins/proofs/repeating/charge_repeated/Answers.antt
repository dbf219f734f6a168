use Rattle.std.proofs.Common.{◌≡◌, length, arith, rules}
use Rattle.std.proofs.lemmas.Bool.Decides.{nat_tests}
use Rattle.star_builtins.proofs.PartLemmas.{repeat_nothing, paid_more, paid_over}
use Rattle.star_builtins.proofs.repeating.charge_repeated.Goals as goal

pub returns-then-items-eq0 : goal.returns-then-items-eq0
returns-then-items-eq0 c =
    let none : length c.args.items.now ≡ 0 = grind (arith, nat_tests) in
    rw (repeat_nothing c.args.count c.args.items.now none) c.charge.ensures

pub returns-in_err-charge_items : goal.returns-in_err-charge_items
returns-in_err-charge_items c =
    let over = paid_over c.args.items.now c.loop-time._time c.args.count _ _ c.loop-time-test.true _ _ c.in_err-charge_items.ensures c.loop-time.invariant in
    search (rules, over)

pub loop-time-preserved : goal.loop-time-preserved
loop-time-preserved c = paid_more c.args.items.now c.loop-time._time c.args.count _ _ c.loop-time-test.true _ _ c.in_ok-charge_items.ensures c.loop-time.invariant
