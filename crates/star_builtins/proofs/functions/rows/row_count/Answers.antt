use Rattle.std.proofs.Common.{◌≤◌, length, arith, sym}
use Rattle.star_builtins.proofs.Columns.{rows_counted}
use Rattle.star_builtins.proofs.functions.rows.row_count.Goals as goal

pub returns : goal.returns
returns c =
    let past : length c.args.columns.now ≤ c.loop-column.column-index = omega arith in
    rows_counted c.args.machine.now.state c.args.columns.now _ _ _ c.loop-column.column-index (sym c.in-Some.ensures.value) c.in_ok-least.ensures.1 past c.loop-column.invariant.iterable c.loop-column.invariant.least
