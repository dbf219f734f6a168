use Rattle.std.proofs.Common.{◌≡◌, ◌+◌, ◌*◌, drop}
use Rattle.star_resolver.specs.Outcomes.{each, stands}
use Rattle.star_resolver.specs.Scans.{scan_statement, scan_branch}
use Rattle.star_resolver.proofs.statement.+scan.Given as goal

-- each function goes down the tree, or stays and calls one of a lower number

abbrev pub decreases-statement : goal.decreases-statement
decreases-statement l = 5 * goal.size-statement l

abbrev pub decreases-statements : goal.decreases-statements
decreases-statements l = 5 * goal.size-statements l + 1

abbrev pub decreases-block : goal.decreases-block
decreases-block l = 5 * goal.size-block l + 2

abbrev pub decreases-branch : goal.decreases-branch
decreases-branch l = 5 * goal.size-branch l + 3

abbrev pub decreases-otherwise : goal.decreases-otherwise
decreases-otherwise l = 5 * goal.size-otherwise l + 3

abbrev pub decreases-branches : goal.decreases-branches
decreases-branches l = 5 * goal.size-branches l + 4

-- ---- what is left from here comes to what all come to from the start

abbrev pub invariant-statements-loop-tree : goal.invariant-statements-loop-tree
invariant-statements-loop-tree l =
    each (scan_statement (stands l.place)) (drop l.tree-index l.trees) l.found ≡ each (scan_statement (stands l.place)) l.trees l.fn.found

abbrev pub invariant-branches-loop-tree : goal.invariant-branches-loop-tree
invariant-branches-loop-tree l =
    each (scan_branch l.line (stands l.place)) (drop l.tree-index l.trees) l.found ≡ each (scan_branch l.line (stands l.place)) l.trees l.fn.found
