use Rattle.std.proofs.Common.{◌≡◌, ◌∙◌, ◌<◌, ◌≤◌, length, map, sym, rules, arith, Err}
use Rattle.star_value.specs.declared.stop.Stop.TheVariants as stop
use Rattle.star_value.specs.declared.value.Value.TheVariants as value
use Rattle.star_builtins.specs.Walks.{given}
use Rattle.star_builtins.proofs.SortLemmas.{ordered_end, ordered_stopped, text_next, text_wrong}
use Rattle.star_builtins.proofs.functions.sorting.texts_in_order.Goals as goal

pub returns-in_err-item : goal.returns-in_err-item
returns-in_err-item c =
    let items = given c.args.machine.now.state c.args.of.now in
    let r : c.from_residual-in_err-item.result ≡ Err c.in_err-item.field-0.0 = search rules in
    let within : c.loop-place.place < length items = omega arith in
    rw (← c.loop-place.invariant, r)
    (ordered_stopped c.args.back (value.Text c.args.first) items c.loop-place.place c.args.machine.now.state c.loop-place.meter.left _ (map value.Text c.loop-place.texts.items) _ within c.in_err-item.ensures.gives)

pub returns-in_err-into_text : goal.returns-in_err-into_text
returns-in_err-into_text c =
    let items = given c.args.machine.now.state c.args.of.now in
    let r : c.from_residual-in_err-into_text.result ≡ Err (stop.Failure c.in_err-into_text.field-0.0) = search rules in
    rw (← c.loop-place.invariant, r)
    (text_wrong c.args.back items c.loop-place.place c.args.machine.now.state c.loop-place.meter.left _ c.in_ok-item.item c.in_ok-item.ensures.gives c.args.first (map value.Text c.loop-place.texts.items) _ c.in_err-into_text.ensures.0 c.in_err-into_text.ensures.1)

pub loop-place-preserved : goal.loop-place-preserved
loop-place-preserved c =
    let items = given c.args.machine.now.state c.args.of.now in
    text_next c.args.back items c.loop-place.place c.args.machine.now.state c.loop-place.meter.left _ c.in_ok-item.item c.in_ok-item.ensures.gives c.args.first _ c.loop-place.texts.items _ c.in_ok-into_text.ensures c.in_ok-push-2.ensures.items
    ∙ c.loop-place.invariant

pub returns : goal.returns
returns c =
    let items = given c.args.machine.now.state c.args.of.now in
    let past : length items ≤ c.loop-place.place = omega arith in
    sym c.loop-place.invariant ∙ rw c.in_ok-sorted_texts.ensures (ordered_end c.args.back (value.Text c.args.first) items c.loop-place.place c.args.machine.now.state c.loop-place.meter.left (map value.Text c.loop-place.texts.items) _ past)
