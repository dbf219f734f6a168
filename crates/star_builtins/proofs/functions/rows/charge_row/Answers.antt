use Rattle.std.proofs.Common.{rules}
use Rattle.star_builtins.proofs.Columns.{got_at, row_charged, row_over}
use Rattle.star_builtins.proofs.functions.rows.charge_row.Goals as goal

pub returns-in_err-charge_at : goal.returns-in_err-charge_at
returns-in_err-charge_at c =
    let at = got_at c.args.columns.now c.loop-column.column-index c.column-item.result c.loop-column-test.true c.column-item.is in
    let over = row_over c.args.machine.now.state c.args.place c.args.columns.now c.loop-column.column-index _ at c.requires.within _ _ _ c.loop-column.invariant _ c.in_err-charge_at.ensures in
    search (rules, over)

pub loop-column-preserved : goal.loop-column-preserved
loop-column-preserved c =
    let at = got_at c.args.columns.now c.loop-column.column-index c.column-item.result c.loop-column-test.true c.column-item.is in
    row_charged c.args.machine.now.state c.args.place c.args.columns.now c.loop-column.column-index _ at c.requires.within _ _ _ c.loop-column.invariant _ c.in_ok-charge_at.ensures
