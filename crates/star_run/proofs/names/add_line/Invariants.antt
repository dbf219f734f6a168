use Rattle.std.proofs.Common.{◌≡◌, ◌+◌, ◌*◌, take}
use Rattle.std.specs.List.{flat_map}
use Rattle.star_meaning.specs.Statements.{small_names}
use Rattle.star_run.specs.Locals.{branch_bound, clause_bound, with_names}
use Rattle.star_run.proofs.names.add_line.Given as goal

abbrev pub invariant-loop-small : goal.invariant-loop-small
invariant-loop-small l = l.names ≡ with_names l.initial.names (flat_map small_names (take l.small-index l.small-items))
