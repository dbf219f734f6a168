use Rattle.std.proofs.Common.{◌+◌, ◌*◌}
use Rattle.language_tests.proofs.parser.expression_shape.+shape.Given as goal

-- each function goes down the tree, or stays and calls one of a lower number

abbrev pub decreases-operation : goal.decreases-operation
decreases-operation l = 7 * goal.size-operation l

abbrev pub decreases-bracketed : goal.decreases-bracketed
decreases-bracketed l = 7 * goal.size-bracketed l + 1

abbrev pub decreases-expr : goal.decreases-expr
decreases-expr l = 7 * goal.size-expr l + 2

abbrev pub decreases-exprs : goal.decreases-exprs
decreases-exprs l = 7 * goal.size-exprs l + 3

abbrev pub decreases-optional : goal.decreases-optional
decreases-optional l = 7 * goal.size-optional l + 3

abbrev pub decreases-pairs : goal.decreases-pairs
decreases-pairs l = 7 * goal.size-pairs l + 3

abbrev pub decreases-named : goal.decreases-named
decreases-named l = 7 * goal.size-named l + 3

abbrev pub decreases-links : goal.decreases-links
decreases-links l = 7 * goal.size-links l + 3

abbrev pub decreases-arms : goal.decreases-arms
decreases-arms l = 7 * goal.size-arms l + 3

abbrev pub decreases-second_colon : goal.decreases-second_colon
decreases-second_colon l = 7 * goal.size-second_colon l + 4

abbrev pub decreases-clauses : goal.decreases-clauses
decreases-clauses l = 7 * goal.size-clauses l + 4

abbrev pub decreases-arguments : goal.decreases-arguments
decreases-arguments l = 7 * goal.size-arguments l + 4

abbrev pub decreases-suffixes : goal.decreases-suffixes
decreases-suffixes l = 7 * goal.size-suffixes l + 5
