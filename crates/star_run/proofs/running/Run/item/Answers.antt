use Rattle.star_run.specs.RunView.{running_of}
use Rattle.star_run.proofs.ItemLemmas.{run_item_fits}
use Rattle.star_run.proofs.running.Run.item.Goals as goal

pub returns-clause-fits : goal.returns-clause-fits
returns-clause-fits c =
    run_item_fits (running_of c.self.inside) c.args.self.now c.args.of.now c.in_ok-item.item c.args.place c.self.view_is c.ran-nodes.ensures.kept c.self.invariant.proper c.requires.of c.requires.within c.in_ok-item.ensures.value
