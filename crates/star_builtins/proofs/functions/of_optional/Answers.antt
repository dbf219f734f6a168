use Rattle.std.proofs.Common.{◌≡◌, ◌∙◌, rules, Err}
use Rattle.star_value.specs.declared.stop.Stop.TheVariants as stop
use Rattle.star_meaning.specs.Builtins as spec
use Rattle.star_builtins.specs.Table.{optional_row}
use Rattle.star_builtins.proofs.BuiltinTable.{given_to, refused}
use Rattle.star_builtins.proofs.functions.of_optional.Goals as goal

pub returns-in_err-values-clause-gives : goal.returns-in_err-values-clause-gives
returns-in_err-values-clause-gives c =
    let r : c.from_residual.result ≡ Err (stop.Failure c.in_err-values.field-0.0) = search rules in
    let row = spec.with_optional (optional_row c.args.row) in
    rw r (refused _ row _ _ (c.in_err-values.ensures.value row))

pub returns-in_err-given-clause-gives : goal.returns-in_err-given-clause-gives
returns-in_err-given-clause-gives c =
    let r : c.from_residual-in_err-given.result ≡ Err (stop.Failure c.in_err-given.field-0.0) = search rules in
    let row = optional_row c.args.row in
    rw r (refused _ row _ _ (c.in_ok-values.ensures.value (spec.with_optional row) ∙ c.in_err-given.ensures.value row))

pub returns-clause-gives : goal.returns-clause-gives
returns-clause-gives c =
    let row = optional_row c.args.row in
    given_to _ row _ _ _ _ (c.in_ok-values.ensures.value (spec.with_optional row) ∙ c.in_ok-given.ensures.value row) c.at_optional.ensures.gives

pub at_optional-requires-clause-given : goal.at_optional-requires-clause-given
at_optional-requires-clause-given c = c.in_ok-given.ensures.fits c.args.machine.now (c.in_ok-values.ensures.fits c.args.machine.now c.requires.positional)
