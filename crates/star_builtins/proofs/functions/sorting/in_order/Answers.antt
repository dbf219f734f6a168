use Rattle.std.proofs.Common.{◌≡◌, ◌∙◌, ◌<◌, length, rules, arith, Err, to_z, of_z}
use Rattle.std.specs.Int.{w128}
use Rattle.star_value.specs.declared.stop.Stop.TheVariants as stop
use Rattle.star_builtins.specs.Reached.{store}
use Rattle.star_builtins.specs.Walks.{given}
use Rattle.star_builtins.proofs.RowLemmas.{same_gives}
use Rattle.star_builtins.proofs.SortLemmas.{first_number, first_stopped, first_text, first_wrong, no_items_in, ordered_none}
use Rattle.star_builtins.proofs.functions.sorting.in_order.Goals as goal

pub returns-then-count-eq0 : goal.returns-then-count-eq0
returns-then-count-eq0 c =
    let items = given c.args.machine.now.state c.args.of.now in
    rw c.new.ensures (ordered_none c.args.back items (store c.args.machine.now c.args.meter.now.left) (no_items_in items (c.requires.count ∙ c.if-count-eq0.true)))

pub returns-in_err-first : goal.returns-in_err-first
returns-in_err-first c =
    let items = given c.args.machine.now.state c.args.of.now in
    let r : c.from_residual.result ≡ Err c.in_err-first.field-0.0 = search rules in
    let same = c.requires.count in
    let some = c.if-count-eq0.false in
    let within : 0 < length items = omega (arith, same, some) in
    rw r (first_stopped c.args.back items c.args.machine.now.state c.args.meter.now.left _ _ within c.in_err-first.ensures.gives)

pub returns-in_err-into_text-in-None : goal.returns-in_err-into_text-in-None
returns-in_err-into_text-in-None c =
    let items = given c.args.machine.now.state c.args.of.now in
    let r : c.from_residual-in_err-into_text-in-None.result ≡ Err (stop.Failure c.in_err-into_text-in-None.field-0.0) = search rules in
    rw r (first_wrong c.args.back items c.args.machine.now.state c.args.meter.now.left _ c.in_ok-first.first c.in_ok-first.ensures.gives _ c.in-None.ensures c.in_err-into_text-in-None.ensures.0 c.in_err-into_text-in-None.ensures.1)

pub returns-in-Some : goal.returns-in-Some
returns-in-Some c =
    let items = given c.args.machine.now.state c.args.of.now in
    let number : to_z w128 (of_z w128 c.in-Some.number) ≡ c.in-Some.number = search rules in
    same_gives _ _ _ _ (first_number c.args.back items c.args.machine.now.state c.args.meter.now.left _ c.in_ok-first.first c.in_ok-first.ensures.gives c.in-Some.number c.in-Some.ensures) (rw number at c.numbers_in_order.ensures)

pub returns-in_ok-into_text-in-None : goal.returns-in_ok-into_text-in-None
returns-in_ok-into_text-in-None c =
    let items = given c.args.machine.now.state c.args.of.now in
    same_gives _ _ _ _ (first_text c.args.back items c.args.machine.now.state c.args.meter.now.left _ c.in_ok-first.first c.in_ok-first.ensures.gives _ c.in_ok-into_text-in-None.ensures) c.texts_in_order.ensures
