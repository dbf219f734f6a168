use Rattle.std.proofs.Common.{◌≡◌, ◌<◌, ◌≤◌, Err, arith, length, rules}
use Rattle.star_value.specs.declared.stop.Stop.TheVariants as stop
use Rattle.star_builtins.specs.Reached.{store}
use Rattle.star_builtins.specs.Walks.{given}
use Rattle.star_builtins.proofs.GivenTexts.{item_ends, text_refused, text_taken, texts_end, texts_of_none, texts_start}
use Rattle.star_builtins.proofs.text_methods.taken_texts.Goals as goal

pub returns-in_err-count : goal.returns-in_err-count
returns-in_err-count c =
    let r : c.from_residual.result ≡ Err (stop.Failure c.in_err-count.field-0.0) = search rules in
    rw r (texts_of_none c.args.of.now c.in_err-count.field-0.0 (store c.args.machine.now c.args.meter.now.left) c.in_err-count.ensures.0 c.in_err-count.ensures.1)

pub loop-place-init : goal.loop-place-init
loop-place-init c = rw c.new-parts.ensures (texts_start c.args.of.now (store c.args.machine.now c.args.meter.now.left) c.in_ok-count.ensures.0)

pub returns-in_err-item : goal.returns-in_err-item
returns-in_err-item c =
    let within : c.loop-place.place < length (given c.args.machine.now.state c.args.of.now) = omega (arith, c.in_ok-count.ensures.1) in
    let ends = item_ends (given c.args.machine.now.state c.args.of.now) c.loop-place.place c.loop-place.meter.left c.charged_item.new.meter.left c.args.machine.now.state c.loop-place.parts _ c.in_err-item.field-0.0 within c.in_err-item.ensures.gives c.loop-place.invariant in
    search (rules, ends)

pub returns-in_err-part : goal.returns-in_err-part
returns-in_err-part c =
    let r : c.from_residual-in_err-part.result ≡ Err (stop.Failure c.in_err-part.field-0.0) = search rules in
    rw r (text_refused (given c.args.machine.now.state c.args.of.now) c.loop-place.place c.loop-place.meter.left c.charged_item.new.meter.left c.args.machine.now.state c.loop-place.parts _ c.in_ok-item.item c.in_err-part.field-0.0
    c.in_ok-item.ensures.gives.0 c.in_ok-item.ensures.gives.1 c.in_err-part.ensures.0 c.in_err-part.ensures.1 c.loop-place.invariant)

pub loop-place-preserved : goal.loop-place-preserved
loop-place-preserved c =
    rw c.in_ok-push.ensures.ok (text_taken (given c.args.machine.now.state c.args.of.now) c.loop-place.place c.loop-place.meter.left c.charged_item.new.meter.left c.args.machine.now.state c.loop-place.parts _ c.in_ok-item.item c.in_ok-part.part
    c.in_ok-item.ensures.gives.0 c.in_ok-item.ensures.gives.1 c.in_ok-part.ensures c.loop-place.invariant)

pub returns : goal.returns
returns c =
    let past : length (given c.args.machine.now.state c.args.of.now) ≤ c.loop-place.place = omega (arith, c.in_ok-count.ensures.1) in
    texts_end (given c.args.machine.now.state c.args.of.now) c.loop-place.place c.loop-place.parts (store c.args.machine.now c.loop-place.meter.left) _ past c.loop-place.invariant
