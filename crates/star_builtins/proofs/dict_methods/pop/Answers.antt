use Rattle.std.proofs.Common.{ℕ, Option, rules}
use Rattle.star_value.specs.declared.value.Value.{Value}
use Rattle.star_meaning.specs.Steps.{Action}
use Rattle.star_builtins.specs.MethodRows as rows
use Rattle.star_builtins.specs.Reached.{store}
use Rattle.star_builtins.proofs.RowGiven.{given, refused}
use Rattle.star_builtins.proofs.dict_methods.pop.Goals as goal

pub returns-in_err-key-clause-gives : goal.returns-in_err-key-clause-gives
returns-in_err-key-clause-gives c =
    let f : Value → Option Value → Action ℕ Value = rows.pop_value c.args.locked.now c.args.id in
    let stop = refused {A = Value × Option Value} _ (λ both. f both.0 both.1) _ (store c.args.machine.now c.args.meter.now.left) (c.in_err-key.ensures.value f) in search (rules, stop)

pub returns-clause-gives : goal.returns-clause-gives
returns-clause-gives c =
    let f : Value → Option Value → Action ℕ Value = rows.pop_value c.args.locked.now c.args.id in
    given {A = Value × Option Value} _ (λ both. f both.0 both.1) (c.in_ok-key.key, c.in_ok-key.otherwise) _ _ _ (c.in_ok-key.ensures.value f) c.pop_value.ensures.gives
