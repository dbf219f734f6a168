use Rattle.std.proofs.Common.{◌≡◌, ◌+◌, ◌*◌, take}
use Rattle.std.specs.List.{flat_map}
use Rattle.star_meaning.specs.Statements.{statement_names}
use Rattle.star_run.specs.Locals.{branch_bound, clause_bound, with_names}
use Rattle.star_run.proofs.names.+bodies.Given as goal

abbrev pub invariant-add_statements-loop-statement : goal.invariant-add_statements-loop-statement
invariant-add_statements-loop-statement l = l.names ≡ with_names l.initial.names (flat_map statement_names (take l.statement-index l.all))

abbrev pub invariant-add_branches-loop-branch : goal.invariant-add_branches-loop-branch
invariant-add_branches-loop-branch l = l.names ≡ with_names l.initial.names (flat_map branch_bound (take l.branch-index l.all))

-- each function goes down the tree, or stays and calls one of a lower number

abbrev pub decreases-add_statement : goal.decreases-add_statement
decreases-add_statement l = 4 * goal.size-add_statement l

abbrev pub decreases-add_statements : goal.decreases-add_statements
decreases-add_statements l = 4 * goal.size-add_statements l + 1

abbrev pub decreases-add_body : goal.decreases-add_body
decreases-add_body l = 4 * goal.size-add_body l + 2

abbrev pub decreases-add_branches : goal.decreases-add_branches
decreases-add_branches l = 4 * goal.size-add_branches l + 3
