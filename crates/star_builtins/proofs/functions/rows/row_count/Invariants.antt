use Rattle.std.proofs.Common.{◌≡◌, drop}
use Rattle.std.specs.List.{list_all}
use Rattle.star_builtins.proofs.Columns.{has_items, least_from}
use Rattle.star_builtins.proofs.functions.rows.row_count.Given as goal

abbrev pub invariant-loop-column : goal.invariant-loop-column
invariant-loop-column l = record {
  iterable : list_all (has_items l.machine.state) (drop l.column-index l.columns) ≡ list_all (has_items l.machine.state) l.columns;
  least : least_from l.machine.state l.least (drop l.column-index l.columns) ≡ least_from l.machine.state l.initial.least l.columns;
}
