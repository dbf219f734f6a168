use Rattle.std.proofs.Common.{rules}
use Rattle.star_builtins.specs.Reached.{store}
use Rattle.star_builtins.proofs.KeyLemmas.{key_is_proper}
use Rattle.star_builtins.proofs.Keyed.{keyed_no_pair, keyed_over, keyed_went}
use Rattle.star_builtins.proofs.functions.pairing.keyed_pair.Goals as goal

pub returns-in_err-key-clause-gives : goal.returns-in_err-key-clause-gives
returns-in_err-key-clause-gives c =
    let ends = keyed_no_pair c.args.item (store c.args.machine.now c.args.meter.now.left) _ (c.in_err-key.ensures.gives c.args.meter.now.left) in
    search (rules, ends)

pub returns-in_err-charge_key-clause-gives : goal.returns-in_err-charge_key-clause-gives
returns-in_err-charge_key-clause-gives c =
    let over = keyed_over c.args.item c.in_ok-key.key c.in_ok-key.value c.args.machine.now.state c.args.meter.now.left _ c.in_ok-key-2.key (c.in_ok-key.ensures.gives c.args.meter.now.left) c.in_ok-key-2.ensures _ c.in_err-charge_key.ensures in
    search (rules, over)

pub returns-clause-gives : goal.returns-clause-gives
returns-clause-gives c =
    keyed_went c.args.item c.in_ok-key.key c.in_ok-key.value c.args.machine.now.state c.args.meter.now.left _ c.in_ok-key-2.key (c.in_ok-key.ensures.gives c.args.meter.now.left) c.in_ok-key-2.ensures c.in_ok-charge_key.ensures

pub returns-clause-key : goal.returns-clause-key
returns-clause-key c = key_is_proper c.args.machine.now c.in_ok-key.key c.in_ok-key-2.key c.in_ok-key.ensures.first c.in_ok-key-2.ensures
