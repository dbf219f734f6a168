use Rattle.std.proofs.Common.{refl, rules}
use Rattle.star_meaning.specs.State.{dict}
use Rattle.star_meaning.specs.Values.{key_values}
use Rattle.star_builtins.proofs.ListLemmas.{list_gives, list_ends}
use Rattle.star_builtins.proofs.dict_methods.key_list.Goals as goal

pub returns-in_err-keys-clause-gives : goal.returns-in_err-keys-clause-gives
returns-in_err-keys-clause-gives c =
    let ends = list_ends c.args.machine.now c.args.meter.now.left c.charged_keys.new.meter.left (key_values (dict c.args.machine.now.state c.args.id)) (key_values (dict c.args.machine.now.state c.args.id)) c.in_err-keys.field-0.0 refl c.in_err-keys.ensures.charges in
    search (rules, ends)

pub returns-clause-gives : goal.returns-clause-gives
returns-clause-gives c =
    let paid = c.in_ok-keys.ensures.charges in
    list_gives c.args.machine.now c.new_list.new.machine _ _ _ _ _ paid.0 paid.1 (c.new_list.ensures.gives _)
