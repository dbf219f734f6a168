use Rattle.std.proofs.Common.{rules}
use Rattle.star_builtins.specs.Reached.{store}
use Rattle.star_builtins.proofs.Keyed.{made_nothing, made_ends, made_gives}
use Rattle.star_builtins.proofs.functions.pairing.dict_of_items.Goals as goal

pub returns-in_err-count-clause-gives : goal.returns-in_err-count-clause-gives
returns-in_err-count-clause-gives c =
    let none = made_nothing c.args.of.now (store c.args.machine.now c.args.meter.now.left) c.in_err-count.ensures.0 in
    let is = c.in_err-count.ensures.1 in
    search (rules, none, is)

pub returns-in_err-pairs-clause-gives : goal.returns-in_err-pairs-clause-gives
returns-in_err-pairs-clause-gives c =
    let ends = made_ends c.args.of.now _ (store c.args.machine.now c.args.meter.now.left) _ c.in_ok-count.ensures.0 _ c.in_err-pairs.ensures.gives in
    search (rules, ends)

pub returns-clause-gives : goal.returns-clause-gives
returns-clause-gives c =
    made_gives c.args.of.now _ (store c.args.machine.now c.args.meter.now.left) _ c.in_ok-count.ensures.0 _ _ _ c.in_ok-pairs.ensures.gives (c.new_dict.ensures.gives _)
