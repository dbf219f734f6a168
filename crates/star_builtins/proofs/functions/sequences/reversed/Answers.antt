use Rattle.std.proofs.Common.{rules, ◌∙◌, ap, reverse}
use Rattle.star_builtins.specs.Walks.{given}
use Rattle.star_builtins.proofs.Sequences.{fit_moved, reversed_over, reversed_gives}
use Rattle.star_builtins.proofs.WalkLemmas.{given_fit}
use Rattle.star_builtins.proofs.functions.sequences.reversed.Goals as goal

pub returns-in_err-charge_iterated-clause-gives : goal.returns-in_err-charge_iterated-clause-gives
returns-in_err-charge_iterated-clause-gives c =
    let over = reversed_over c.args.of.now (given c.args.machine.now.state c.args.of.now) c.args.machine.now.state c.args.meter.now.left _ c.in_ok-count.ensures.0 _ c.in_err-charge_iterated.ensures in
    search (rules, over)

pub new_list-requires-clause-fit : goal.new_list-requires-clause-fit
new_list-requires-clause-fit c =
    rw c.from_vec.ensures (fit_moved c.args.machine.now _ _ c.reverse.ensures.permutation
    (rw c.in_ok-items.ensures (given_fit c.args.machine.now c.args.of.now c.ran-nodes.ensures.kept c.requires.held c.requires.of)))

pub returns-clause-gives : goal.returns-clause-gives
returns-clause-gives c =
    reversed_gives c.args.of.now (given c.args.machine.now.state c.args.of.now) c.args.machine.now.state c.args.meter.now.left _ c.in_ok-count.ensures.0 _ _ _ c.in_ok-charge_iterated.ensures
    (c.from_vec.ensures ∙ c.reverse.ensures.items ∙ ap reverse c.in_ok-items.ensures) (c.new_list.ensures.gives _)
