use Rattle.std.proofs.Common.{rules}
use Rattle.star_meaning.specs.State.{dict}
use Rattle.star_builtins.proofs.ChangedLemmas.{pairs_are}
use Rattle.star_builtins.proofs.DictLemmas.{updated, update_over}
use Rattle.star_builtins.proofs.dict_methods.update_pairs.Goals as goal

pub returns-in_err-charge_pairs-clause-gives : goal.returns-in_err-charge_pairs-clause-gives
returns-in_err-charge_pairs-clause-gives c =
    let stop = update_over c.args.machine.now c.args.locked.now c.args.id c.args.meter.now.left _ (dict c.args.machine.now.state c.args.other) c.in_ok-check_unlocked.ensures _ (rw c.dict.ensures.value at c.in_err-charge_pairs.ensures) in search (rules, stop)

pub put_pairs-requires-clause-more : goal.put_pairs-requires-clause-more
put_pairs-requires-clause-more c =
    rw (c.in_ok-more.ensures, c.dict-2.ensures.value) (pairs_are c.args.machine.now c.args.machine.now c.args.other c.dict.ensures.kept c.dict.ensures.kept c.requires.held c.requires.other)

pub returns-clause-gives : goal.returns-clause-gives
returns-clause-gives c =
    updated c.args.machine.now c.args.locked.now c.args.id c.args.meter.now.left _ (dict c.args.machine.now.state c.args.other) c.in_ok-check_unlocked.ensures c.put_pairs.new.machine
    (rw c.dict.ensures.value at c.in_ok-charge_pairs.ensures) (rw (c.in_ok-more.ensures, c.dict-2.ensures.value) at c.in_ok-put_pairs.ensures.ok)
