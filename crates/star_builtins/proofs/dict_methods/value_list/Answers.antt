use Rattle.std.proofs.Common.{◌≡◌, ap, rules}
use Rattle.star_meaning.specs.Methods.{pair_values}
use Rattle.star_meaning.specs.State.{dict}
use Rattle.star_builtins.proofs.ChangedLemmas.{pairs_are}
use Rattle.star_builtins.proofs.ListLemmas.{list_gives, list_ends}
use Rattle.star_builtins.proofs.PairWalks.{values_fit}
use Rattle.star_builtins.proofs.dict_methods.value_list.Goals as goal

pub returns-in_err-values-clause-gives : goal.returns-in_err-values-clause-gives
returns-in_err-values-clause-gives c =
    let ends = list_ends c.args.machine.now c.args.meter.now.left c.charged_values.new.meter.left _ _ c.in_err-values.field-0.0 (ap pair_values c.dict.ensures.value) c.in_err-values.ensures in
    search (rules, ends)

pub new_list-requires-clause-fit : goal.new_list-requires-clause-fit
new_list-requires-clause-fit c =
    rw (c.in_ok-values.ensures.1, c.dict.ensures.value)
    (values_fit c.args.machine.now (dict c.args.machine.now.state c.args.id) (pairs_are c.args.machine.now c.args.machine.now c.args.id c.dict.ensures.kept c.dict.ensures.kept c.requires.held c.requires.kind))

pub returns-clause-gives : goal.returns-clause-gives
returns-clause-gives c =
    let paid = rw c.dict.ensures.value at c.in_ok-values.ensures in
    list_gives c.args.machine.now c.new_list.new.machine _ _ _ _ _ paid.0 paid.1 (c.new_list.ensures.gives _)
