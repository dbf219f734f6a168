use Rattle.star_meaning.specs.Statements.{small_names}
use Rattle.star_run.proofs.LocalLemmas.{names_step}
use Rattle.star_run.proofs.names.add_line.Goals as goal

pub loop-small-preserved : goal.loop-small-preserved
loop-small-preserved c = names_step small_names c.as_slice-small-items.result.now c.loop-small.small-index c.small-item.result _ _ _ c.loop-small-test.true c.small-item.is c.loop-small.invariant c.in_ok-add_small.ensures
