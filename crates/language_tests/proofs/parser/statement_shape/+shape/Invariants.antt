use Rattle.std.proofs.Common.{◌+◌, ◌*◌}
use Rattle.language_tests.proofs.parser.statement_shape.+shape.Given as goal

-- each function goes down the tree, or stays and calls one of a lower number

abbrev pub decreases-statement : goal.decreases-statement
decreases-statement l = 5 * goal.size-statement l

abbrev pub decreases-statements : goal.decreases-statements
decreases-statements l = 5 * goal.size-statements l + 1

abbrev pub decreases-block : goal.decreases-block
decreases-block l = 5 * goal.size-block l + 2

abbrev pub decreases-branch : goal.decreases-branch
decreases-branch l = 5 * goal.size-branch l + 3

abbrev pub decreases-otherwise : goal.decreases-otherwise
decreases-otherwise l = 5 * goal.size-otherwise l + 3

abbrev pub decreases-branches : goal.decreases-branches
decreases-branches l = 5 * goal.size-branches l + 4
