use Rattle.std.proofs.Common.{Err, Ok, rules}
use Rattle.star_meaning.specs.Methods.{pair_rows}
use Rattle.star_meaning.specs.State.{dict}
use Rattle.star_builtins.specs.Reached.{store}
use Rattle.star_builtins.proofs.ChangedLemmas.{pairs_are}
use Rattle.star_builtins.proofs.DictLemmas.{rows_of}
use Rattle.star_builtins.proofs.TupleLemmas.{tuples_list, tuples_end}
use Rattle.star_builtins.proofs.dict_methods.item_list.Goals as goal

pub returns-in_err-tuples-clause-gives : goal.returns-in_err-tuples-clause-gives
returns-in_err-tuples-clause-gives c =
    let ends = tuples_end (pair_rows (dict c.args.machine.now.state c.args.id)) (store c.args.machine.now c.args.meter.now.left) (store c.args.machine.now c.item_tuples.new.meter.left) c.in_err-tuples.field-0.0 (rows_of _ _ _ _ (Err c.in_err-tuples.field-0.0) c.dict.ensures.value (c.in_err-tuples.ensures.gives c.args.machine.now.state)) in
    search (rules, ends)

pub new_list-requires-clause-fit : goal.new_list-requires-clause-fit
new_list-requires-clause-fit c =
    c.in_ok-tuples.ensures.fits c.args.machine.now
    (rw c.dict.ensures.value (pairs_are c.args.machine.now c.args.machine.now c.args.id c.dict.ensures.kept c.dict.ensures.kept c.requires.held c.requires.kind))

pub returns-clause-gives : goal.returns-clause-gives
returns-clause-gives c =
    tuples_list (pair_rows (dict c.args.machine.now.state c.args.id)) _ _ _ _ _ (rows_of _ _ _ _ (Ok c.in_ok-tuples.tuples) c.dict.ensures.value (c.in_ok-tuples.ensures.gives c.args.machine.now.state)) (c.new_list.ensures.gives _)
