use Rattle.std.proofs.Common.{ℕ, List, ap, ◌∙◌, rules}
use Rattle.star_value.specs.declared.value.Value.{Value}
use Rattle.star_meaning.specs.Steps.{Action}
use Rattle.star_builtins.specs.MethodNames.{text_method}
use Rattle.star_builtins.specs.Reached.{store, weighed}
use Rattle.star_builtins.proofs.RowGiven.{given_weighed, refused}
use Rattle.star_builtins.proofs.TableLemmas.{text_is, text_none}
use Rattle.star_builtins.proofs.methods.text_call.Goals as goal

pub returns-in_default-clause-gives : goal.returns-in_default-clause-gives
returns-in_default-clause-gives c =
    λ locked. ap weighed (text_none locked c.args.name.now c.args.call.positional c.args.call.named (store c.args.machine.now c.args.meter.now.left) c.args.text.now c.in_default.ensures)

pub returns-in_err-arguments-clause-gives : goal.returns-in_err-arguments-clause-gives
returns-in_err-arguments-clause-gives c =
    let f : List Value → Action ℕ Value = text_method c.in-Some.method c.args.text.now in
    let s = store c.args.machine.now c.args.meter.now.left in
    λ locked. let stop = ap weighed (text_is locked c.args.name.now c.args.call.positional c.args.call.named s c.args.text.now c.in-Some.method c.in-Some.ensures ∙ refused _ f _ s (c.in_err-arguments.ensures.value f)) in
    search (rules, stop)

pub returns-clause-gives : goal.returns-clause-gives
returns-clause-gives c =
    let f : List Value → Action ℕ Value = text_method c.in-Some.method c.args.text.now in
    let s = store c.args.machine.now c.args.meter.now.left in
    λ locked. given_weighed _ f _ c.in_ok-arguments.arguments s (store c.text_row.new.machine c.text_row.new.meter.left) c.text_row.result
    (text_is locked c.args.name.now c.args.call.positional c.args.call.named s c.args.text.now c.in-Some.method c.in-Some.ensures) (c.in_ok-arguments.ensures.value f) c.text_row.ensures.gives
