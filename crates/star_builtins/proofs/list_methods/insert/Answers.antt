use Rattle.std.proofs.Common.{ℕ, rules}
use Rattle.star_value.specs.declared.value.Value.{Value}
use Rattle.star_meaning.specs.Steps.{Action}
use Rattle.star_builtins.specs.MethodRows as rows
use Rattle.star_builtins.specs.Reached.{store}
use Rattle.star_builtins.proofs.RowGiven.{given, refused}
use Rattle.star_builtins.proofs.list_methods.insert.Goals as goal

pub returns-in_err-at-clause-gives : goal.returns-in_err-at-clause-gives
returns-in_err-at-clause-gives c =
    let f : Value → Value → Action ℕ Value = rows.insert_value c.args.locked.now c.args.id in
    λ left. let stop = refused {A = Value × Value} _ (λ both. f both.0 both.1) _ (store c.args.machine.now left) (c.in_err-at.ensures.value f) in search (rules, stop)

pub returns-clause-gives : goal.returns-clause-gives
returns-clause-gives c =
    let f : Value → Value → Action ℕ Value = rows.insert_value c.args.locked.now c.args.id in
    λ left. given {A = Value × Value} _ (λ both. f both.0 both.1) _ _ _ _ (c.in_ok-at.ensures.value f) (c.insert_value.ensures.gives left)
