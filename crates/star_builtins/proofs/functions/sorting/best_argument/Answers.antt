use Rattle.std.proofs.Common.{◌≡◌, sym, rules, Err}
use Rattle.star_value.specs.declared.stop.Stop.TheVariants as stop
use Rattle.star_builtins.specs.Sorting.{better}
use Rattle.star_builtins.proofs.FitLemmas.{item_fits}
use Rattle.star_builtins.proofs.SortRows.{several_best, several_over, several_wrong}
use Rattle.star_builtins.proofs.functions.sorting.best_argument.Goals as goal

pub returns-then-not-all_alike-clause-gives : goal.returns-then-not-all_alike-clause-gives
returns-then-not-all_alike-clause-gives c = λ s.
    several_wrong (better c.args.greatest) s c.args.meter.now.left c.args.values c.index-items-0.result c.requires (rw c.as_slice-items.ensures at c.index-items-0.is) (rw c.as_slice-items.ensures at (sym c.if-not-all_alike.ensures))

pub returns-in_err-charge_items-clause-gives : goal.returns-in_err-charge_items-clause-gives
returns-in_err-charge_items-clause-gives c = λ s.
    let r : c.from_residual.result ≡ Err (stop.Failure c.in_err-charge_items.field-0.0) = search rules in
    rw r
    (several_over (better c.args.greatest) s c.args.meter.now.left c.args.values c.index-items-0.result c.requires (rw c.as_slice-items.ensures at c.index-items-0.is) _ _
    (rw c.as_slice-items.ensures at (sym c.if-not-all_alike.ensures)) (rw c.as_slice-items.ensures at c.in_err-charge_items.ensures))

pub returns-clause-gives : goal.returns-clause-gives
returns-clause-gives c = λ s.
    several_best (better c.args.greatest) s c.args.meter.now.left c.args.values c.index-items-0.result c.requires (rw c.as_slice-items.ensures at c.index-items-0.is) _ c.best_place-place.result _
    (rw c.as_slice-items.ensures at (sym c.if-not-all_alike.ensures)) (rw c.as_slice-items.ensures at c.in_ok-charge_items.ensures) (rw c.as_slice-items.ensures at c.best_place-place.ensures.best) c.remove.ensures.item

pub returns-clause-fits : goal.returns-clause-fits
returns-clause-fits c = λ m fit. item_fits m c.args.values c.best_place-place.result _ fit c.remove.ensures.item
