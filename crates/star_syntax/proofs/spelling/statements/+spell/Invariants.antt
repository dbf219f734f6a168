use Rattle.std.proofs.Common.{◌≡◌, ◌++◌, ◌+◌, ◌*◌, take}
use Rattle.std.specs.List.{flat_map}
use Rattle.star_syntax.specs.declared.token.Keyword.TheVariants as w
use Rattle.star_syntax.specs.Spelling.{statement_spelling}
use Rattle.star_syntax.specs.SpellingOfParts.{case_spelling}
use Rattle.star_syntax.proofs.spelling.statements.+spell.Given as goal

-- each function goes down the tree, or stays and calls one of a lower number

abbrev pub decreases-statement : goal.decreases-statement
decreases-statement l = 5 * goal.size-statement l

abbrev pub decreases-statements : goal.decreases-statements
decreases-statements l = 5 * goal.size-statements l + 1

abbrev pub decreases-block : goal.decreases-block
decreases-block l = 5 * goal.size-block l + 2

abbrev pub decreases-case : goal.decreases-case
decreases-case l = 5 * goal.size-case l + 3

abbrev pub decreases-otherwise : goal.decreases-otherwise
decreases-otherwise l = 5 * goal.size-otherwise l + 3

abbrev pub decreases-definition : goal.decreases-definition
decreases-definition l = 5 * goal.size-definition l + 3

abbrev pub decreases-branches : goal.decreases-branches
decreases-branches l = 5 * goal.size-branches l + 4

-- ---- what the loops have written

abbrev pub invariant-statements-loop-tree : goal.invariant-statements-loop-tree
invariant-statements-loop-tree l = l.out.items ≡ l.fn.out.items ++ flat_map statement_spelling (take l.tree-index l.all)

abbrev pub invariant-branches-loop-tree : goal.invariant-branches-loop-tree
invariant-branches-loop-tree l = l.out.items ≡ l.fn.out.items ++ flat_map (case_spelling w.Elif) (take l.tree-index l.all)
