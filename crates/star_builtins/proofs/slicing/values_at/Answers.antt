use Rattle.std.proofs.Common.{◌≡◌, None, rules, sym}
use Rattle.star_meaning.specs.Operators.{at_int}
use Rattle.star_meaning.specs.Values.{range_item}
use Rattle.star_builtins.proofs.TakenLemmas.{taken_start, taken_pass, taken_push}
use Rattle.star_builtins.proofs.slicing.values_at.Goals as goal

pub loop-place-init : goal.loop-place-init
loop-place-init c = record { count = c.len-place-end.ensures.count; all = rw c.new-taken.ensures (taken_start c.args.items.now c.args.range.now _ c.len-place-end.ensures.count) }

pub loop-place-preserved-in_default : goal.loop-place-preserved-in_default
loop-place-preserved-in_default c =
    let none : at_int c.args.items.now (range_item c.args.range.now c.loop-place.place) ≡ None = search rules in
    record { count = c.loop-place.invariant.count; all = taken_pass c.args.items.now c.args.range.now c.loop-place.place _ c.loop-place-test.true _ _ none c.loop-place.invariant.all }

pub loop-place-preserved : goal.loop-place-preserved
loop-place-preserved c =
    record { count = c.loop-place.invariant.count; all = rw (c.in_ok-push.ensures.ok, c.in_ok-copy.ensures) (taken_push c.args.items.now c.args.range.now c.loop-place.place _ c.loop-place-test.true _ _ _ (sym c.in-Some.ensures) c.loop-place.invariant.all) }
