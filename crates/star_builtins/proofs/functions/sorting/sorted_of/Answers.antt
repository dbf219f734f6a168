use Rattle.std.proofs.Common.{◌≡◌, rules, Err}
use Rattle.star_value.specs.declared.stop.Stop.TheVariants as stop
use Rattle.star_builtins.specs.Reached.{store}
use Rattle.star_builtins.specs.Walks.{given}
use Rattle.star_builtins.proofs.SortRows.{ordered_items, sort_ends, sort_made, sort_no_bool, sort_no_items, sort_refused, sorted_fit}
use Rattle.star_builtins.proofs.WalkLemmas.{given_fit}
use Rattle.star_builtins.proofs.functions.sorting.sorted_of.Goals as goal

pub returns-in_err-given-clause-gives : goal.returns-in_err-given-clause-gives
returns-in_err-given-clause-gives c =
    let s = store c.args.machine.now c.args.meter.now.left in
    let r : c.from_residual-in_err-given.result ≡ Err (stop.Failure c.in_err-given.field-0.0) = search rules in
    rw r (sort_refused c.in_ok-name.name c.args.named c.args.of.now s c.in_ok-name.ensures.points _ c.in_err-given.ensures.0 c.in_err-given.ensures.1)

pub returns-in_err-count-clause-gives : goal.returns-in_err-count-clause-gives
returns-in_err-count-clause-gives c =
    let s = store c.args.machine.now c.args.meter.now.left in
    let r : c.from_residual-in_err-count.result ≡ Err (stop.Failure c.in_err-count.field-0.0) = search rules in
    rw r (sort_no_items c.in_ok-name.name c.args.named c.args.of.now s c.in_ok-name.ensures.points c.in_ok-given.given c.in_ok-given.ensures _ c.in_err-count.ensures.0 c.in_err-count.ensures.1)

pub returns-in_err-back-clause-gives : goal.returns-in_err-back-clause-gives
returns-in_err-back-clause-gives c =
    let s = store c.args.machine.now c.args.meter.now.left in
    let items = given c.args.machine.now.state c.args.of.now in
    let r : c.from_residual-in_err-back.result ≡ Err (stop.Failure c.in_err-back.field-0.0) = search rules in
    rw r (sort_no_bool c.in_ok-name.name c.args.named c.args.of.now s c.in_ok-name.ensures.points c.in_ok-given.given c.in_ok-given.ensures items c.in_ok-count.ensures.0 _ (c.in_err-back.ensures s))

pub returns-in_err-items-clause-gives : goal.returns-in_err-items-clause-gives
returns-in_err-items-clause-gives c =
    let s = store c.args.machine.now c.args.meter.now.left in
    let items = given c.args.machine.now.state c.args.of.now in
    let r : c.from_residual-in_err-items.result ≡ Err c.in_err-items.field-0.0 = search rules in
    rw r (sort_ends c.in_ok-name.name c.args.named c.args.of.now s c.in_ok-name.ensures.points c.in_ok-given.given c.in_ok-given.ensures items c.in_ok-count.ensures.0 c.in_ok-back.back (c.in_ok-back.ensures s) _ _ c.in_err-items.ensures)

pub new_list-requires-clause-fit : goal.new_list-requires-clause-fit
new_list-requires-clause-fit c =
    let items = given c.args.machine.now.state c.args.of.now in
    sorted_fit c.args.machine.now c.in_ok-back.back items c.in_ok-items.items (ordered_items c.in_ok-back.back items c.in_ok-items.items _ _ c.in_ok-items.ensures) (given_fit c.args.machine.now c.args.of.now c.ran-nodes.ensures.kept c.requires.held c.requires.of)

pub returns-clause-gives : goal.returns-clause-gives
returns-clause-gives c =
    let s = store c.args.machine.now c.args.meter.now.left in
    let items = given c.args.machine.now.state c.args.of.now in
    sort_made c.in_ok-name.name c.args.named c.args.of.now s c.in_ok-name.ensures.points c.in_ok-given.given c.in_ok-given.ensures items c.in_ok-count.ensures.0 c.in_ok-back.back (c.in_ok-back.ensures s) c.in_ok-items.items _ _ _ c.in_ok-items.ensures (c.new_list.ensures.gives _)
