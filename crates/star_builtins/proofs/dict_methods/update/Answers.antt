use Rattle.std.proofs.Common.{ℕ, rules}
use Rattle.star_value.specs.declared.value.Value.{Value}
use Rattle.star_meaning.specs.Steps.{Action}
use Rattle.star_builtins.specs.MethodRows as rows
use Rattle.star_builtins.specs.Reached.{store}
use Rattle.star_builtins.proofs.RowGiven.{given, refused}
use Rattle.star_builtins.proofs.dict_methods.update.Goals as goal

pub returns-in_err-of-clause-gives : goal.returns-in_err-of-clause-gives
returns-in_err-of-clause-gives c =
    let f : Value → Action ℕ Value = rows.update_with c.args.locked.now c.args.id in
    let stop = refused _ f _ (store c.args.machine.now c.args.meter.now.left) (c.in_err-of.ensures.value f) in search (rules, stop)

pub returns-clause-gives : goal.returns-clause-gives
returns-clause-gives c =
    let f : Value → Action ℕ Value = rows.update_with c.args.locked.now c.args.id in
    given _ f _ _ _ _ (c.in_ok-of.ensures.value f) c.update_with.ensures.gives
