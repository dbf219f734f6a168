use Rattle.std.proofs.Common.{ℕ, rules}
use Rattle.star_value.specs.declared.value.Value.{Value}
use Rattle.star_meaning.specs.Steps.{Action}
use Rattle.star_builtins.specs.MethodRows as rows
use Rattle.star_builtins.specs.Reached.{store}
use Rattle.star_builtins.proofs.RowGiven.{given, refused}
use Rattle.star_builtins.proofs.list_methods.remove.Goals as goal

pub returns-in_err-wanted-clause-gives : goal.returns-in_err-wanted-clause-gives
returns-in_err-wanted-clause-gives c =
    let f : Value → Action ℕ Value = rows.remove_value c.args.locked.now c.args.id in
    let stop = refused _ f _ (store c.args.machine.now c.args.meter.now.left) (c.in_err-wanted.ensures.value f) in search (rules, stop)

pub returns-clause-gives : goal.returns-clause-gives
returns-clause-gives c =
    let f : Value → Action ℕ Value = rows.remove_value c.args.locked.now c.args.id in
    given _ f _ _ _ _ (c.in_ok-wanted.ensures.value f) c.remove_value.ensures.gives
