use Rattle.std.proofs.Common.{◌<◌, length, arith}
use Rattle.std.proofs.lemmas.Bool.Decides.{nat_tests}
use Rattle.star_builtins.proofs.Columns.{got_at}
use Rattle.star_builtins.proofs.FitLemmas.{item_fits, list_items}
use Rattle.star_builtins.proofs.functions.pairing.two_copied.Goals as goal

pub returns-clause-first : goal.returns-clause-first
returns-clause-first c =
    let within : 0 < length c.list-items.result.now = grind (arith, nat_tests) in
    rw c.in_ok-copy.ensures
    (item_fits c.args.machine.now c.list-items.result.now 0 c.index-items-0.result (rw c.list-items.ensures.value (list_items c.args.machine.now c.args.id c.list-items.ensures.kept c.requires.held))
    (got_at c.list-items.result.now 0 c.index-items-0.result within c.index-items-0.is))

pub returns-clause-second : goal.returns-clause-second
returns-clause-second c =
    let within : 1 < length c.list-items.result.now = grind (arith, nat_tests) in
    rw c.in_ok-copy-2.ensures
    (item_fits c.args.machine.now c.list-items.result.now 1 c.index-items-1.result (rw c.list-items.ensures.value (list_items c.args.machine.now c.args.id c.list-items.ensures.kept c.requires.held))
    (got_at c.list-items.result.now 1 c.index-items-1.result within c.index-items-1.is))
