use Rattle.std.proofs.Common.{◌≡◌, rules, Err}
use Rattle.star_value.specs.declared.stop.Stop.TheVariants as stop
use Rattle.star_meaning.specs.Builtins as spec
use Rattle.star_builtins.proofs.BuiltinTable.{given_to, refused}
use Rattle.star_builtins.proofs.functions.sorting.sorted.Goals as goal

pub returns-in_err-of-clause-gives : goal.returns-in_err-of-clause-gives
returns-in_err-of-clause-gives c =
    let r : c.from_residual.result ≡ Err (stop.Failure c.in_err-of.field-0.0) = search rules in
    rw r (refused _ (spec.sorted c.args.call.named) _ _ (c.in_err-of.ensures.value (spec.sorted c.args.call.named)))

pub returns-clause-gives : goal.returns-clause-gives
returns-clause-gives c = given_to _ (spec.sorted c.args.call.named) _ _ _ _ (c.in_ok-of.ensures.value (spec.sorted c.args.call.named)) c.sorted_of.ensures.gives
