use Rattle.std.proofs.Common.{◌≡◌, rules}
use Rattle.std.specs.List.{list_any}
use Rattle.star_builtins.specs.Reached.{store}
use Rattle.star_builtins.specs.Walks.{given}
use Rattle.star_builtins.proofs.Sequences.{any_true, none_false, tested_went, tested_over, tested_nothing}
use Rattle.star_builtins.proofs.functions.quantifiers.any.Goals as goal

pub returns-in_err-count-clause-gives : goal.returns-in_err-count-clause-gives
returns-in_err-count-clause-gives c =
    let none = tested_nothing list_any c.args.of.now (store c.args.machine.now c.args.meter.now.left) c.in_err-count.ensures.0 in
    let is = c.in_err-count.ensures.1 in
    search (rules, none, is)

pub returns-in_err-charge_iterated-clause-gives : goal.returns-in_err-charge_iterated-clause-gives
returns-in_err-charge_iterated-clause-gives c =
    let over = tested_over list_any c.args.of.now (given c.args.machine.now.state c.args.of.now) c.args.machine.now.state c.args.meter.now.left _ c.in_ok-count.ensures.0 _ c.in_err-charge_iterated.ensures in
    search (rules, over)

pub returns-clause-gives : goal.returns-clause-gives
returns-clause-gives c =
    let went = tested_went list_any c.args.of.now (given c.args.machine.now.state c.args.of.now) c.args.machine.now.state c.args.meter.now.left _ c.in_ok-count.ensures.0 c.in_ok-charge_iterated.ensures in
    let same = any_true c.args.machine.now.state (given c.args.machine.now.state c.args.of.now) in
    cc (went, same, c.gives_truth.ensures, c.value_of.ensures.is)
