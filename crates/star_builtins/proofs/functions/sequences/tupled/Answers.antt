use Rattle.std.proofs.Common.{rules}
use Rattle.star_builtins.specs.Reached.{store}
use Rattle.star_builtins.proofs.Sequences.{tuple_went, tuple_ends, tuple_nothing}
use Rattle.star_builtins.proofs.functions.sequences.tupled.Goals as goal

pub returns-in_err-count-clause-gives : goal.returns-in_err-count-clause-gives
returns-in_err-count-clause-gives c =
    let none = tuple_nothing c.args.of.now (store c.args.machine.now c.args.meter.now.left) c.in_err-count.ensures.0 in
    let is = c.in_err-count.ensures.1 in
    search (rules, none, is)

pub returns-in_err-items-clause-gives : goal.returns-in_err-items-clause-gives
returns-in_err-items-clause-gives c =
    let ends = tuple_ends c.args.of.now _ (store c.args.machine.now c.args.meter.now.left) _ c.in_ok-count.ensures.0 _ c.in_err-items.ensures.gives in
    search (rules, ends)

pub returns-clause-gives : goal.returns-clause-gives
returns-clause-gives c = tuple_went c.args.of.now _ (store c.args.machine.now c.args.meter.now.left) _ c.in_ok-count.ensures.0 _ c.in_ok-items.ensures.gives
