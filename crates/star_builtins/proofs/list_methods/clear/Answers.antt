use Rattle.std.proofs.Common.{ℕ, rules}
use Rattle.star_value.specs.declared.value.Value.{Value}
use Rattle.star_meaning.specs.Steps.{Action}
use Rattle.star_builtins.specs.MethodRows as rows
use Rattle.star_builtins.specs.Reached.{store}
use Rattle.star_builtins.proofs.RowGiven.{given, refused}
use Rattle.star_builtins.proofs.list_methods.clear.Goals as goal

pub returns-in_err-none-clause-gives : goal.returns-in_err-none-clause-gives
returns-in_err-none-clause-gives c =
    let f : Action ℕ Value = rows.clear_items c.args.locked.now c.args.id in
    λ left. let stop = refused {A = Unit {0}} _ (λ done. f) _ (store c.args.machine.now left) (c.in_err-none.ensures f) in search (rules, stop)

pub returns-clause-gives : goal.returns-clause-gives
returns-clause-gives c =
    let f : Action ℕ Value = rows.clear_items c.args.locked.now c.args.id in
    λ left. given {A = Unit {0}} _ (λ done. f) _ _ _ _ (c.in_ok-none.ensures f) (c.clear_items.ensures.gives left)
