use Rattle.std.proofs.Common.{◌≡◌, ◌+◌, ◌*◌, drop}
use Rattle.star_resolver.specs.Outcomes.{each}
use Rattle.star_resolver.specs.Scans.{scan, scan_named, scan_suffix, scan_clause, scan_pair, scan_link, scan_arm}
use Rattle.star_resolver.proofs.expression.+scan.Given as goal

-- each function goes down the tree, or stays and calls one of a lower number

abbrev pub decreases-expr : goal.decreases-expr
decreases-expr l = 5 * goal.size-expr l

abbrev pub decreases-exprs : goal.decreases-exprs
decreases-exprs l = 5 * goal.size-exprs l + 1

abbrev pub decreases-optional : goal.decreases-optional
decreases-optional l = 5 * goal.size-optional l + 1

abbrev pub decreases-pairs : goal.decreases-pairs
decreases-pairs l = 5 * goal.size-pairs l + 1

abbrev pub decreases-named : goal.decreases-named
decreases-named l = 5 * goal.size-named l + 1

abbrev pub decreases-links : goal.decreases-links
decreases-links l = 5 * goal.size-links l + 1

abbrev pub decreases-arms : goal.decreases-arms
decreases-arms l = 5 * goal.size-arms l + 1

abbrev pub decreases-second_colon : goal.decreases-second_colon
decreases-second_colon l = 5 * goal.size-second_colon l + 2

abbrev pub decreases-clauses : goal.decreases-clauses
decreases-clauses l = 5 * goal.size-clauses l + 2

abbrev pub decreases-arguments : goal.decreases-arguments
decreases-arguments l = 5 * goal.size-arguments l + 2

abbrev pub decreases-suffixes : goal.decreases-suffixes
decreases-suffixes l = 5 * goal.size-suffixes l + 3

-- ---- what is left from here comes to what all come to from the start

abbrev pub invariant-exprs-loop-tree : goal.invariant-exprs-loop-tree
invariant-exprs-loop-tree l = each (scan l.line) (drop l.tree-index l.trees) l.found ≡ each (scan l.line) l.trees l.fn.found

abbrev pub invariant-named-loop-one : goal.invariant-named-loop-one
invariant-named-loop-one l = each (scan_named l.line) (drop l.one-index l.all) l.found ≡ each (scan_named l.line) l.all l.fn.found

abbrev pub invariant-suffixes-loop-suffix : goal.invariant-suffixes-loop-suffix
invariant-suffixes-loop-suffix l = each (scan_suffix l.line) (drop l.suffix-index l.all) l.found ≡ each (scan_suffix l.line) l.all l.fn.found

abbrev pub invariant-clauses-loop-clause : goal.invariant-clauses-loop-clause
invariant-clauses-loop-clause l = each (scan_clause l.line) (drop l.clause-index l.all) l.found ≡ each (scan_clause l.line) l.all l.fn.found

abbrev pub invariant-pairs-loop-pair : goal.invariant-pairs-loop-pair
invariant-pairs-loop-pair l = each (scan_pair l.line) (drop l.pair-index l.all) l.found ≡ each (scan_pair l.line) l.all l.fn.found

abbrev pub invariant-links-loop-link : goal.invariant-links-loop-link
invariant-links-loop-link l = each (scan_link l.line) (drop l.link-index l.all) l.found ≡ each (scan_link l.line) l.all l.fn.found

abbrev pub invariant-arms-loop-arm : goal.invariant-arms-loop-arm
invariant-arms-loop-arm l = each (scan_arm l.line) (drop l.arm-index l.all) l.found ≡ each (scan_arm l.line) l.all l.fn.found
