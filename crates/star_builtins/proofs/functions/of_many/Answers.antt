use Rattle.std.proofs.Common.{◌≡◌, rules, Err}
use Rattle.star_value.specs.declared.stop.Stop.TheVariants as stop
use Rattle.star_builtins.specs.Table.{many_row}
use Rattle.star_builtins.proofs.BuiltinTable.{given_to, refused}
use Rattle.star_builtins.proofs.functions.of_many.Goals as goal

pub returns-in_err-values-clause-gives : goal.returns-in_err-values-clause-gives
returns-in_err-values-clause-gives c =
    let r : c.from_residual.result ≡ Err (stop.Failure c.in_err-values.field-0.0) = search rules in
    let row = many_row c.args.row in
    rw r (refused _ row _ _ (c.in_err-values.ensures.value row))

pub returns-clause-gives : goal.returns-clause-gives
returns-clause-gives c =
    let row = many_row c.args.row in
    given_to _ row _ _ _ _ (c.in_ok-values.ensures.value row) c.at_many.ensures.gives
