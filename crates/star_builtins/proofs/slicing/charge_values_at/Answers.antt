use Rattle.std.proofs.Common.{◌≡◌, None, rules, sym, ap}
use Rattle.star_meaning.specs.Operators.{at_int}
use Rattle.star_meaning.specs.Values.{range_item}
use Rattle.star_value.specs.Charge.{charged}
use Rattle.star_value.specs.Weight.{sum_of_weights}
use Rattle.star_builtins.proofs.TakenLemmas.{taken_start, charge_pass, charge_more, charge_stop}
use Rattle.star_builtins.proofs.slicing.charge_values_at.Goals as goal

pub loop-place-init : goal.loop-place-init
loop-place-init c = record {
  count = c.len-place-end.ensures.count;
  all = ap (λ ys. charged c.args.meter.now.left (sum_of_weights ys)) (taken_start c.args.items.now c.args.range.now _ c.len-place-end.ensures.count);
}

pub loop-place-preserved-in_default : goal.loop-place-preserved-in_default
loop-place-preserved-in_default c =
    let none : at_int c.args.items.now (range_item c.args.range.now c.loop-place.place) ≡ None = search rules in
    record { count = c.loop-place.invariant.count; all = charge_pass c.args.items.now c.args.range.now c.loop-place.place _ _ _ c.loop-place-test.true none c.loop-place.invariant.all }

pub returns-in_err-charge_weight : goal.returns-in_err-charge_weight
returns-in_err-charge_weight c =
    let stop = charge_stop c.args.items.now c.args.range.now c.loop-place.place _ _ _ c.loop-place-test.true _ _ _ (sym c.in-Some.ensures) c.in_err-charge_weight.ensures c.loop-place.invariant.all in
    search (rules, stop)

pub loop-place-preserved : goal.loop-place-preserved
loop-place-preserved c =
    record { count = c.loop-place.invariant.count; all = charge_more c.args.items.now c.args.range.now c.loop-place.place _ _ _ c.loop-place-test.true _ _ _ (sym c.in-Some.ensures) c.in_ok-charge_weight.ensures c.loop-place.invariant.all }
