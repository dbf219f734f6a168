use Rattle.std.proofs.Common.{◌≡◌, rules, Err}
use Rattle.star_value.specs.declared.stop.Stop.TheVariants as stop
use Rattle.star_builtins.specs.Reached.{store}
use Rattle.star_builtins.specs.Table.{many_row}
use Rattle.star_builtins.proofs.functions.at_many.Goals as goal

pub returns-in_err-range-in-Range-clause-gives : goal.returns-in_err-range-in-Range-clause-gives
unfolding many_row
returns-in_err-range-in-Range-clause-gives c =
    let r : c.from_residual.result ≡ Err (stop.Failure c.in_err-range-in-Range.field-0.0) = search rules in
    rw (c.in-Range.is, r) (c.in_err-range-in-Range.ensures.gives (store c.args.machine.now c.args.meter.now.left))

pub returns-in_ok-range-in-Range-clause-gives : goal.returns-in_ok-range-in-Range-clause-gives
unfolding many_row
returns-in_ok-range-in-Range-clause-gives c = rw c.in-Range.is (c.in_ok-range-in-Range.ensures.gives (store c.args.machine.now c.args.meter.now.left))
