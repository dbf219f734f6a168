use Rattle.star_meaning.specs.Expressions.{target_names}
use Rattle.star_run.proofs.LocalLemmas.{names_step}
use Rattle.star_run.proofs.names.+targets.Goals as goal

pub add_targets-loop-target-preserved : goal.add_targets-loop-target-preserved
add_targets-loop-target-preserved t c = names_step target_names c.args.targets.now c.loop-target.target-index c.target-item.result _ _ _ c.loop-target-test.true c.target-item.is c.loop-target.invariant c.in_ok-add_target.ensures
