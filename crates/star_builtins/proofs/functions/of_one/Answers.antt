use Rattle.std.proofs.Common.{◌≡◌, ◌∙◌, rules, Err}
use Rattle.star_value.specs.declared.stop.Stop.TheVariants as stop
use Rattle.star_meaning.specs.Builtins as spec
use Rattle.star_builtins.specs.Reached.{names}
use Rattle.star_builtins.specs.Table.{one_row}
use Rattle.star_builtins.proofs.BuiltinTable.{given_to, refused}
use Rattle.star_builtins.proofs.functions.of_one.Goals as goal

pub returns-in_err-values-clause-gives : goal.returns-in_err-values-clause-gives
returns-in_err-values-clause-gives c =
    let r : c.from_residual.result ≡ Err (stop.Failure c.in_err-values.field-0.0) = search rules in
    let row = spec.with_one (one_row (names c.args.program.now) c.args.row) in
    rw r (refused _ row _ _ (c.in_err-values.ensures.value row))

pub returns-in_err-value-clause-gives : goal.returns-in_err-value-clause-gives
returns-in_err-value-clause-gives c =
    let r : c.from_residual-in_err-value.result ≡ Err (stop.Failure c.in_err-value.field-0.0) = search rules in
    let row = one_row (names c.args.program.now) c.args.row in
    rw r (refused _ row _ _ (c.in_ok-values.ensures.value (spec.with_one row) ∙ c.in_err-value.ensures.value row))

pub returns-clause-gives : goal.returns-clause-gives
returns-clause-gives c =
    let row = one_row (names c.args.program.now) c.args.row in
    given_to _ row _ _ _ _ (c.in_ok-values.ensures.value (spec.with_one row) ∙ c.in_ok-value.ensures.value row) c.at_one.ensures.gives

pub at_one-requires-clause-value : goal.at_one-requires-clause-value
at_one-requires-clause-value c = c.in_ok-value.ensures.fits c.args.machine.now (c.in_ok-values.ensures.fits c.args.machine.now c.requires.positional)
