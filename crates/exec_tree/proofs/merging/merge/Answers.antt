use Rattle.std.proofs.Common.{◌∙◌}
use Rattle.exec_tree.proofs.StepLemmas.{merged_forest}
use Rattle.exec_tree.proofs.merging.merge.Goals as goal

pub returns-clause-forest : goal.returns-clause-forest
returns-clause-forest c = c.in_ok-new.ensures ∙ merged_forest c.args.versions.now _ _ _ c.in_ok-growth.ensures
