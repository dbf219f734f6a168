use Rattle.std.proofs.Common.{◌≡◌, ◌∙◌, sym, ap, rules, Some, None}
use Rattle.std.specs.Prelude.{unwrap_or}
use Rattle.star_value.specs.declared.value.Value.TheVariants as value
use Rattle.star_meaning.specs.State.{dict, dict_get}
use Rattle.star_builtins.proofs.DictLemmas.{popped, popped_over, unpopped}
use Rattle.star_builtins.proofs.dict_methods.pop_value.Goals as goal

pub returns-in_err-check_found-clause-gives : goal.returns-in_err-check_found-clause-gives
returns-in_err-check_found-clause-gives c =
    let stop = unpopped c.args.machine.now c.args.id c.args.meter.now.left c.args.meter.now.left c.args.key c.in_ok-key.key c.in_ok-key.ensures c.args.locked.now c.in_ok-check_unlocked.ensures c.args.otherwise _ c.in_err-check_found.ensures in search (rules, stop)

pub returns-in_err-charge_key-clause-gives : goal.returns-in_err-charge_key-clause-gives
returns-in_err-charge_key-clause-gives c =
    let stop = popped_over c.args.machine.now c.args.id c.args.meter.now.left _ c.args.key c.in_ok-key.key c.in_ok-key.ensures c.args.locked.now c.in_ok-check_unlocked.ensures c.args.otherwise _ c.in_ok-check_found.ensures c.in_err-charge_key.ensures in search (rules, stop)

pub returns-in-Some-clause-gives : goal.returns-in-Some-clause-gives
returns-in-Some-clause-gives c =
    popped c.args.machine.now c.args.id c.args.meter.now.left _ c.args.key c.in_ok-key.key c.in_ok-key.ensures c.args.locked.now c.in_ok-check_unlocked.ensures c.take_pair.new.machine c.args.otherwise c.in-Some.held
    c.in_ok-check_found.ensures (ap (λ o. unwrap_or o (unwrap_or c.args.otherwise value.None)) (sym c.in-Some.ensures.value)) c.in_ok-charge_key.ensures c.in-Some.ensures.rest

pub returns-in-None-clause-gives : goal.returns-in-None-clause-gives
returns-in-None-clause-gives c =
    popped c.args.machine.now c.args.id c.args.meter.now.left _ c.args.key c.in_ok-key.key c.in_ok-key.ensures c.args.locked.now c.in_ok-check_unlocked.ensures c.take_pair.new.machine c.args.otherwise c.given_or_none.result
    c.in_ok-check_found.ensures (ap (λ o. unwrap_or o (unwrap_or c.args.otherwise value.None)) (sym c.in-None.ensures.value) ∙ sym c.given_or_none.ensures.is) c.in_ok-charge_key.ensures c.in-None.ensures.rest
