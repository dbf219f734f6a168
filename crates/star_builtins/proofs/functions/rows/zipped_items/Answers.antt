use Rattle.std.proofs.Common.{rules}
use Rattle.star_builtins.specs.Reached.{store}
use Rattle.star_builtins.specs.Rows.{row_at}
use Rattle.star_builtins.proofs.Columns.{row_fits}
use Rattle.star_builtins.proofs.Rowed.{tuple_over, tuple_deep, tuple_went}
use Rattle.star_builtins.proofs.functions.rows.zipped_items.Goals as goal

pub returns-in_err-charge_row-clause-gives : goal.returns-in_err-charge_row-clause-gives
returns-in_err-charge_row-clause-gives c =
    let over = tuple_over (row_at c.args.machine.now.state c.args.place c.args.columns.now) c.args.machine.now.state c.args.meter.now.left _ _ c.in_err-charge_row.ensures in
    search (rules, over)

pub returns-in_err-new_tuple-clause-gives : goal.returns-in_err-new_tuple-clause-gives
returns-in_err-new_tuple-clause-gives c =
    let deep = tuple_deep (row_at c.args.machine.now.state c.args.place c.args.columns.now) c.args.machine.now.state c.args.meter.now.left _ _ c.in_ok-charge_row.ensures
    (rw c.in_ok-row.ensures at (c.in_err-new_tuple.ensures.gives (store c.args.machine.now c.charge_row.new.meter.left))) in
    search (rules, deep)

pub returns-clause-gives : goal.returns-clause-gives
returns-clause-gives c =
    tuple_went (row_at c.args.machine.now.state c.args.place c.args.columns.now) c.args.machine.now.state c.args.meter.now.left _ _ c.in_ok-charge_row.ensures
    (rw c.in_ok-row.ensures at (c.in_ok-new_tuple.ensures.gives (store c.args.machine.now c.charge_row.new.meter.left)))

pub returns-clause-fits : goal.returns-clause-fits
returns-clause-fits c =
    c.in_ok-new_tuple.ensures.fits c.args.machine.now (rw c.in_ok-row.ensures (row_fits c.args.machine.now c.ran-nodes.ensures.kept c.requires.held c.args.place c.args.columns.now c.requires.columns c.requires.within))
