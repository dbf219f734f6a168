use Rattle.std.proofs.Common.{◌≡◌, ◌++◌, drop}
use Rattle.star_builtins.specs.Rows.{row_at as row_of}
use Rattle.star_builtins.proofs.functions.rows.row_at.Given as goal

abbrev pub invariant-loop-column : goal.invariant-loop-column
invariant-loop-column l = l.row.items ++ row_of l.machine.state l.place (drop l.column-index l.columns) ≡ row_of l.machine.state l.place l.columns
