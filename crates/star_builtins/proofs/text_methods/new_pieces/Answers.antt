use Rattle.std.proofs.Common.{map, rules}
use Rattle.star_value.specs.declared.value.Value.TheVariants as value
use Rattle.star_builtins.proofs.ListLemmas.{list_gives, list_stops}
use Rattle.star_builtins.proofs.text_methods.new_pieces.Goals as goal

pub returns-in_err-charge_items-clause-gives : goal.returns-in_err-charge_items-clause-gives
returns-in_err-charge_items-clause-gives c =
    let over = rw (c.as_slice.ensures, c.in_ok-pieces.ensures.same) at c.in_err-charge_items.ensures in
    let stops = list_stops c.args.machine.now c.args.meter.now.left c.charge_items.new.meter.left (map value.Text c.args.parts) c.in_err-charge_items.field-0.0 over in
    search (rules, stops)

pub new_list-requires-clause-fit : goal.new_list-requires-clause-fit
new_list-requires-clause-fit c = c.in_ok-pieces.ensures.fits c.args.machine.now

pub returns-clause-gives : goal.returns-clause-gives
returns-clause-gives c =
    let paid = rw (c.as_slice.ensures, c.in_ok-pieces.ensures.same) at c.in_ok-charge_items.ensures in
    list_gives c.args.machine.now c.new_list.new.machine c.args.meter.now.left c.charge_items.new.meter.left (map value.Text c.args.parts) c.in_ok-pieces.pieces _ paid c.in_ok-pieces.ensures.same (c.new_list.ensures.gives c.charge_items.new.meter.left)
