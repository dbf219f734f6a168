use Rattle.std.proofs.Common.{◌≡◌, drop}
use Rattle.star_value.specs.Charge.{charged}
use Rattle.star_value.specs.Weight.{weight, sum_of_weights}
use Rattle.star_value.specs.declared.value.Value.TheVariants as value
use Rattle.star_builtins.specs.Rows.{row_at}
use Rattle.star_builtins.proofs.functions.rows.charge_row.Given as goal

abbrev pub invariant-loop-column : goal.invariant-loop-column
invariant-loop-column l =
    charged l.meter.left (sum_of_weights (row_at l.machine.state l.place (drop l.column-index l.columns))) ≡ charged l.fn.meter.left (weight (value.Tuple (row_at l.machine.state l.place l.columns)))
