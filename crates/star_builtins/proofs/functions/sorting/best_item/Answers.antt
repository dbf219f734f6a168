use Rattle.std.proofs.Common.{◌≡◌, ◌∙◌, ◌<◌, length, subst, sym, rules, arith, Err}
use Rattle.star_value.specs.declared.stop.Stop.TheVariants as stop
use Rattle.star_meaning.specs.Steps.{Gives}
use Rattle.star_builtins.specs.Reached.{store}
use Rattle.star_builtins.specs.Walks.{given}
use Rattle.star_builtins.proofs.RowLemmas.{same_gives}
use Rattle.star_builtins.proofs.SortRows.{best_begun, best_first_stopped, best_no_element, best_no_items, best_unlike}
use Rattle.star_builtins.proofs.functions.sorting.best_item.Goals as goal

pub returns-in_err-count-clause-gives : goal.returns-in_err-count-clause-gives
returns-in_err-count-clause-gives c =
    let r : c.from_residual.result ≡ Err (stop.Failure c.in_err-count.field-0.0) = search rules in
    let items = given c.args.machine.now.state c.args.of.now in
    rw r (best_no_items c.args.greatest c.args.of.now items c.args.machine.now.state c.args.meter.now.left _ c.in_err-count.ensures.0 c.in_err-count.ensures.1)

pub returns-then-count-eq0-clause-gives : goal.returns-then-count-eq0-clause-gives
returns-then-count-eq0-clause-gives c =
    let items = given c.args.machine.now.state c.args.of.now in
    best_no_element c.args.greatest c.args.of.now items c.args.machine.now.state c.args.meter.now.left c.in_ok-count.ensures.0 (c.in_ok-count.ensures.1 ∙ c.if-count-eq0.true)

pub returns-in_err-first-clause-gives : goal.returns-in_err-first-clause-gives
returns-in_err-first-clause-gives c =
    let items = given c.args.machine.now.state c.args.of.now in
    let r : c.from_residual-in_err-first.result ≡ Err c.in_err-first.field-0.0 = search rules in
    let same = c.in_ok-count.ensures.1 in
    let some = c.if-count-eq0.false in
    let within : 0 < length items = omega (arith, same, some) in
    rw r (best_first_stopped c.args.greatest c.args.of.now items c.args.machine.now.state c.args.meter.now.left c.in_ok-count.ensures.0 _ _ within c.in_err-first.ensures.gives)

pub returns-then-not-are_alike-clause-gives : goal.returns-then-not-are_alike-clause-gives
returns-then-not-are_alike-clause-gives c =
    let items = given c.args.machine.now.state c.args.of.now in
    best_unlike c.args.greatest c.args.of.now items c.args.machine.now.state c.args.meter.now.left c.in_ok-count.ensures.0 c.in_ok-first.first _ c.in_ok-first.ensures.gives.0 c.in_ok-first.ensures.gives.1 (sym c.if-not-are_alike.ensures)

pub returns-clause-gives : goal.returns-clause-gives
returns-clause-gives c =
    let items = given c.args.machine.now.state c.args.of.now in
    same_gives _ _ _ _
    (best_begun c.args.greatest c.args.of.now items c.args.machine.now.state c.args.meter.now.left c.in_ok-count.ensures.0 c.in_ok-first.first _ c.in_ok-first.ensures.gives.0 c.in_ok-first.ensures.gives.1 (sym c.if-not-are_alike.ensures))
    c.best_after.ensures.gives
