use Rattle.std.proofs.Common.{◌≡◌, ◌+◌, ◌*◌, take}
use Rattle.std.specs.List.{flat_map}
use Rattle.star_meaning.specs.Expressions.{target_names}
use Rattle.star_run.specs.Locals.{branch_bound, clause_bound, with_names}
use Rattle.star_run.proofs.names.+targets.Given as goal

abbrev pub invariant-add_targets-loop-target : goal.invariant-add_targets-loop-target
invariant-add_targets-loop-target l = l.names ≡ with_names l.initial.names (flat_map target_names (take l.target-index l.targets))
