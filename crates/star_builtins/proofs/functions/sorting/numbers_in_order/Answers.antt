use Rattle.std.proofs.Common.{◌≡◌, ◌∙◌, ◌<◌, ◌≤◌, length, map, sym, rules, arith, Err, to_z, of_z}
use Rattle.std.proofs.Math.Facts.{to_z-of_z}
use Rattle.std.specs.Int.{w128}
use Rattle.star_value.specs.declared.stop.Stop.TheVariants as stop
use Rattle.star_value.specs.declared.value.Value.TheVariants as value
use Rattle.star_builtins.specs.Walks.{given}
use Rattle.star_builtins.proofs.SortLemmas.{number_next, number_wrong, ordered_end, ordered_stopped}
use Rattle.star_builtins.proofs.functions.sorting.numbers_in_order.Goals as goal

pub returns-in_err-item : goal.returns-in_err-item
returns-in_err-item c =
    let items = given c.args.machine.now.state c.args.of.now in
    let r : c.from_residual-in_err-item.result ≡ Err c.in_err-item.field-0.0 = search rules in
    let within : c.loop-place.place < length items = omega arith in
    let before = rw (to_z-of_z c.ranges.first) at c.loop-place.invariant in
    rw (← before, r)
    (ordered_stopped c.args.back (value.Int c.args.first) items c.loop-place.place c.args.machine.now.state c.loop-place.meter.left _ (map value.Int c.loop-place.numbers.items) _ within c.in_err-item.ensures.gives)

pub returns-in_err-as_int : goal.returns-in_err-as_int
returns-in_err-as_int c =
    let items = given c.args.machine.now.state c.args.of.now in
    let r : c.from_residual-in_err-as_int.result ≡ Err (stop.Failure c.in_err-as_int.field-0.0) = search rules in
    let before = rw (to_z-of_z c.ranges.first) at c.loop-place.invariant in
    rw (← before, r)
    (number_wrong c.args.back items c.loop-place.place c.args.machine.now.state c.loop-place.meter.left _ c.in_ok-item.item c.in_ok-item.ensures.gives c.args.first (map value.Int c.loop-place.numbers.items) _ c.in_err-as_int.ensures.0 c.in_err-as_int.ensures.1)

pub loop-place-preserved : goal.loop-place-preserved
loop-place-preserved c =
    let items = given c.args.machine.now.state c.args.of.now in
    let number : to_z w128 (of_z w128 c.in_ok-as_int.field-0) ≡ c.in_ok-as_int.field-0 = search rules in
    number_next c.args.back items c.loop-place.place c.args.machine.now.state c.loop-place.meter.left _ c.in_ok-item.item c.in_ok-item.ensures.gives (to_z w128 (of_z w128 c.args.first)) _ c.loop-place.numbers.items _ c.in_ok-as_int.ensures (rw number at c.in_ok-push-2.ensures.items)
    ∙ c.loop-place.invariant

pub returns : goal.returns
returns c =
    let items = given c.args.machine.now.state c.args.of.now in
    let past : length items ≤ c.loop-place.place = omega arith in
    let before = rw (to_z-of_z c.ranges.first) at c.loop-place.invariant in
    sym before ∙ rw c.in_ok-sorted_numbers.ensures (ordered_end c.args.back (value.Int c.args.first) items c.loop-place.place c.args.machine.now.state c.loop-place.meter.left (map value.Int c.loop-place.numbers.items) _ past)
