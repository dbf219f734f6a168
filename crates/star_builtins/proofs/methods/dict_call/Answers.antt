use Rattle.std.proofs.Common.{ℕ, List, ◌∙◌, rules}
use Rattle.star_value.specs.declared.value.Value.{Value}
use Rattle.star_meaning.specs.Steps.{Action}
use Rattle.star_builtins.specs.MethodNames.{dict_method}
use Rattle.star_builtins.specs.Reached.{store}
use Rattle.star_builtins.proofs.RowGiven.{given, refused}
use Rattle.star_builtins.proofs.RowLemmas.{same_gives}
use Rattle.star_builtins.proofs.TableLemmas.{dict_is, dict_none}
use Rattle.star_builtins.proofs.methods.dict_call.Goals as goal

pub returns-in_default-clause-gives : goal.returns-in_default-clause-gives
returns-in_default-clause-gives c =
    dict_none c.args.locked.now c.args.name.now c.args.call.positional c.args.call.named (store c.args.machine.now c.args.meter.now.left) c.args.id c.in_default.ensures

pub returns-in_err-arguments-clause-gives : goal.returns-in_err-arguments-clause-gives
returns-in_err-arguments-clause-gives c =
    let f : List Value → Action ℕ Value = dict_method c.in-Some.method c.args.locked.now c.args.id in
    let s = store c.args.machine.now c.args.meter.now.left in
    let stop = dict_is c.args.locked.now c.args.name.now c.args.call.positional c.args.call.named s c.args.id c.in-Some.method c.in-Some.ensures ∙ refused _ f _ s (c.in_err-arguments.ensures.value f) in
    search (rules, stop)

pub returns-clause-gives : goal.returns-clause-gives
returns-clause-gives c =
    let f : List Value → Action ℕ Value = dict_method c.in-Some.method c.args.locked.now c.args.id in
    let s = store c.args.machine.now c.args.meter.now.left in
    same_gives _ _ _ _ (dict_is c.args.locked.now c.args.name.now c.args.call.positional c.args.call.named s c.args.id c.in-Some.method c.in-Some.ensures) (given _ f _ s _ _ (c.in_ok-arguments.ensures.value f) c.dict_row.ensures.gives)
