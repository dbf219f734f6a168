use Rattle.std.proofs.Common.{ℕ, rules}
use Rattle.star_value.specs.declared.value.Value.{Value}
use Rattle.star_meaning.specs.Steps.{Action}
use Rattle.star_builtins.specs.MethodRows as rows
use Rattle.star_builtins.specs.Reached.{store}
use Rattle.star_builtins.proofs.RowGiven.{given, refused}
use Rattle.star_builtins.proofs.dict_methods.values.Goals as goal

pub returns-in_err-none-clause-gives : goal.returns-in_err-none-clause-gives
returns-in_err-none-clause-gives c =
    let f : Action ℕ Value = rows.value_list c.args.id in
    λ locked. let stop = refused {A = Unit {0}} _ (λ done. f) _ (store c.args.machine.now c.args.meter.now.left) (c.in_err-none.ensures f) in search (rules, stop)

pub returns-clause-gives : goal.returns-clause-gives
returns-clause-gives c =
    let f : Action ℕ Value = rows.value_list c.args.id in
    λ locked. given {A = Unit {0}} _ (λ done. f) _ _ _ _ (c.in_ok-none.ensures f) c.value_list.ensures.gives
