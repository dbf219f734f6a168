use Rattle.std.proofs.Common.{rules}
use Rattle.star_meaning.specs.State.{dict}
use Rattle.star_builtins.proofs.ChangedLemmas.{pairs_are}
use Rattle.star_builtins.proofs.FitLemmas.{is_dict_of}
use Rattle.star_builtins.proofs.Keyed.{dict_distinct, first_over, second_over, copied_gives}
use Rattle.star_builtins.proofs.functions.pairing.copied_dict.Goals as goal

pub returns-in_err-charge_keys-clause-gives : goal.returns-in_err-charge_keys-clause-gives
returns-in_err-charge_keys-clause-gives c =
    let over = first_over c.args.machine.now.state (dict c.args.machine.now.state c.args.id) c.args.meter.now.left _ 0 _ c.in_err-charge_keys.ensures in
    search (rules, over)

pub returns-in_err-charge_keys-2-clause-gives : goal.returns-in_err-charge_keys-2-clause-gives
returns-in_err-charge_keys-2-clause-gives c =
    let over = second_over c.args.machine.now.state (dict c.args.machine.now.state c.args.id) c.args.meter.now.left _ _ c.in_ok-charge_keys.ensures _ c.in_err-charge_keys-2.ensures in
    search (rules, over)

pub dict-requires : goal.dict-requires
dict-requires c = is_dict_of c.args.machine.now c.args.id (rw c.requires.is at c.requires.of)

pub copied_pairs-requires : goal.copied_pairs-requires
copied_pairs-requires c = rw c.dict.ensures.value (dict_distinct c.args.machine.now c.args.id c.dict.ensures.kept)

pub new_dict-requires-clause-fit : goal.new_dict-requires-clause-fit
new_dict-requires-clause-fit c =
    rw (c.in_ok-pairs.ensures, c.dict.ensures.value)
    (pairs_are c.args.machine.now c.args.machine.now c.args.id c.dict.ensures.kept c.dict.ensures.kept c.requires.held (is_dict_of c.args.machine.now c.args.id (rw c.requires.is at c.requires.of)))

pub returns-clause-gives : goal.returns-clause-gives
returns-clause-gives c =
    let made = c.new_dict.ensures.gives c.charge_keys-2.new.meter.left in
    copied_gives c.args.machine.now.state (dict c.args.machine.now.state c.args.id) c.args.meter.now.left _ _ c.in_ok-charge_keys.ensures _ _ c.in_ok-charge_keys-2.ensures
    (rw (c.in_ok-pairs.ensures, c.dict.ensures.value) at made)
