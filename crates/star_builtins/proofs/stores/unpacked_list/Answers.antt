use Rattle.star_builtins.proofs.FitLemmas.{list_items}
use Rattle.star_builtins.proofs.stores.unpacked_list.Goals as goal

pub returns-clause-fits : goal.returns-clause-fits
returns-clause-fits c = rw (c.in_ok-copies.ensures, c.list-items.ensures.value) (list_items c.args.machine.now c.args.id c.list-items.ensures.kept c.requires.held)
