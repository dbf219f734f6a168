use Rattle.std.proofs.Common.{◌≡◌, ◌∷◌, [], rules}
use Rattle.std.specs.Prelude.{FitsSigned}
use Rattle.std.specs.Int.{w128}
use Rattle.star_value.specs.declared.value.Value.TheVariants as value
use Rattle.star_builtins.specs.Reached.{store}
use Rattle.star_builtins.specs.Walks.{given}
use Rattle.star_builtins.proofs.FitLemmas.{fits_int}
use Rattle.star_builtins.proofs.Rowed.{number_over, item_ends, numbered_deep, numbered_went, tuple_over}
use Rattle.star_builtins.proofs.TupleLemmas.{pair_fits}
use Rattle.star_builtins.proofs.functions.rows.numbered_item.Goals as goal

pub returns-in_err-charge-clause-gives : goal.returns-in_err-charge-clause-gives
returns-in_err-charge-clause-gives c = λ x is.
    let over = tuple_over (value.Int c.args.number.now ∷ x ∷ []) c.args.machine.now.state c.args.meter.now.left _ _ (number_over c.args.number.now x _ _ _ c.in_err-charge.ensures) in
    search (rules, over)

pub returns-in_err-item-clause-gives : goal.returns-in_err-item-clause-gives
returns-in_err-item-clause-gives c = λ x is.
    let ends = item_ends c.args.number.now c.args.machine.now.state (given c.args.machine.now.state c.args.of.now) c.args.place x c.args.meter.now.left _ _ _ is c.in_ok-charge.ensures c.in_err-item.ensures.gives in
    search (rules, ends)

pub returns-in_err-new_tuple-clause-gives : goal.returns-in_err-new_tuple-clause-gives
returns-in_err-new_tuple-clause-gives c = λ x is.
    let row : c.in_ok-row.row ≡ value.Int c.args.number.now ∷ c.in_ok-item.item ∷ [] = search rules in
    let deep = numbered_deep c.args.number.now c.args.machine.now.state (given c.args.machine.now.state c.args.of.now) c.args.place x _ c.args.meter.now.left _ _ is c.in_ok-charge.ensures c.in_ok-item.ensures.gives _ row _ (c.in_err-new_tuple.ensures.gives _) in
    search (rules, deep)

pub returns-clause-gives : goal.returns-clause-gives
returns-clause-gives c = λ x is.
    let row : c.in_ok-row.row ≡ value.Int c.args.number.now ∷ c.in_ok-item.item ∷ [] = search rules in
    numbered_went c.args.number.now c.args.machine.now.state (given c.args.machine.now.state c.args.of.now) c.args.place x _ c.args.meter.now.left _ _ is c.in_ok-charge.ensures c.in_ok-item.ensures.gives _ row _ (c.in_ok-new_tuple.ensures.gives _)

pub returns-clause-fits : goal.returns-clause-fits
returns-clause-fits c =
    let fit : FitsSigned w128 c.args.number.now = search rules in
    let row : c.in_ok-row.row ≡ value.Int c.args.number.now ∷ c.in_ok-item.item ∷ [] = search rules in
    c.in_ok-new_tuple.ensures.fits c.args.machine.now (rw row (pair_fits c.args.machine.now _ _ (fits_int c.args.machine.now c.args.number.now fit) c.in_ok-item.ensures.fits))
