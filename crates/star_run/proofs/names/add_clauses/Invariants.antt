use Rattle.std.proofs.Common.{◌≡◌, ◌+◌, ◌*◌, take}
use Rattle.std.specs.List.{flat_map}
use Rattle.star_run.specs.Locals.{branch_bound, clause_bound, with_names}
use Rattle.star_run.proofs.names.add_clauses.Given as goal

abbrev pub invariant-loop-clause : goal.invariant-loop-clause
invariant-loop-clause l = l.names ≡ with_names l.initial.names (flat_map clause_bound (take l.clause-index l.clauses))
