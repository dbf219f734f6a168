use Rattle.std.proofs.Common.{◌≡◌, ◌++◌, ◌+◌, ◌*◌, max, map, take}
use Rattle.std.specs.List.{flat_map}
use Rattle.star_syntax.specs.declared.expression.Expr.{size-Expr}
use Rattle.star_syntax.specs.declared.expression.Expr.TheViews.{weight-Expr-ListOver-1, weight-Expr-Primary-1, weight-Expr-Chain-2, weight-Expr-Conditional-0}
use Rattle.star_syntax.specs.Spelling.{expr_spelling, default_spelling, listed}
use Rattle.star_syntax.specs.SpellingOfParts.{expr_suffix_spelling, expr_clause_spelling, expr_pair_spelling, expr_link_spelling, expr_arm_spelling, listed_after}
use Rattle.star_syntax.proofs.spelling.expressions.+spell.Given as goal

-- each function goes down the tree, or stays and calls one of a lower number

abbrev pub decreases-expr : goal.decreases-expr
decreases-expr l = 5 * goal.size-expr l

abbrev pub decreases-paren : goal.decreases-paren
decreases-paren l = 5 * goal.size-paren l + 1

abbrev pub decreases-signed : goal.decreases-signed
decreases-signed l = 5 * goal.size-signed l + 1

abbrev pub decreases-tests : goal.decreases-tests
decreases-tests l = 5 * goal.size-tests l + 1

abbrev pub decreases-optional : goal.decreases-optional
decreases-optional l = 5 * goal.size-optional l + 1

abbrev pub decreases-pairs : goal.decreases-pairs
decreases-pairs l = 5 * goal.size-pairs l + 1

abbrev pub decreases-named : goal.decreases-named
decreases-named l = 5 * goal.size-named l + 1

abbrev pub decreases-display : goal.decreases-display
decreases-display l = 5 * goal.size-display l + 2

abbrev pub decreases-second_colon : goal.decreases-second_colon
decreases-second_colon l = 5 * goal.size-second_colon l + 2

abbrev pub decreases-dict : goal.decreases-dict
decreases-dict l = 5 * goal.size-dict l + 2

abbrev pub decreases-clauses : goal.decreases-clauses
decreases-clauses l = 5 * goal.size-clauses l + 2

abbrev pub decreases-arguments : goal.decreases-arguments
decreases-arguments l = 5 * goal.size-arguments l + 2

abbrev pub decreases-suffixes : goal.decreases-suffixes
decreases-suffixes l = 5 * goal.size-suffixes l + 3

abbrev pub decreases-chain : goal.decreases-chain
decreases-chain l = 5 * (max (size-Expr l.first.now) (weight-Expr-Chain-2 l.links.now)) + 1

abbrev pub decreases-compare : goal.decreases-compare
decreases-compare l = 5 * (max (size-Expr l.left.now) (size-Expr l.right.now)) + 1

abbrev pub decreases-conditional : goal.decreases-conditional
decreases-conditional l = 5 * (max (weight-Expr-Conditional-0 l.arms.now) (size-Expr l.last.now)) + 1

abbrev pub decreases-list_over : goal.decreases-list_over
decreases-list_over l = 5 * (max (size-Expr l.item.now) (weight-Expr-ListOver-1 l.over.now)) + 3

abbrev pub decreases-dict_over : goal.decreases-dict_over
decreases-dict_over l = 5 * (max (size-Expr l.key.now) (max (size-Expr l.value.now) (weight-Expr-ListOver-1 l.over.now))) + 3

abbrev pub decreases-primary : goal.decreases-primary
decreases-primary l = 5 * (max (size-Expr l.head.now) (weight-Expr-Primary-1 l.all.now)) + 4

-- ---- what the loops have written

abbrev pub invariant-tests-loop-place : goal.invariant-tests-loop-place
invariant-tests-loop-place l = l.out.items ≡ l.fn.out.items ++ listed (map expr_spelling (take l.place l.trees))

abbrev pub invariant-pairs-loop-place : goal.invariant-pairs-loop-place
invariant-pairs-loop-place l = l.out.items ≡ l.fn.out.items ++ listed (map expr_pair_spelling (take l.place l.all))

abbrev pub invariant-named-loop-place : goal.invariant-named-loop-place
invariant-named-loop-place l = l.out.items ≡ l.fn.out.items ++ listed_after l.before (map default_spelling (take l.place l.all))

abbrev pub invariant-clauses-loop-clause : goal.invariant-clauses-loop-clause
invariant-clauses-loop-clause l = l.out.items ≡ l.fn.out.items ++ flat_map expr_clause_spelling (take l.clause-index l.all)

abbrev pub invariant-suffixes-loop-suffix : goal.invariant-suffixes-loop-suffix
invariant-suffixes-loop-suffix l = l.out.items ≡ l.fn.out.items ++ flat_map expr_suffix_spelling (take l.suffix-index l.all)

abbrev pub invariant-chain-loop-link : goal.invariant-chain-loop-link
invariant-chain-loop-link l = l.out.items ≡ l.initial.out.items ++ flat_map expr_link_spelling (take l.link-index l.links)

abbrev pub invariant-conditional-loop-arm : goal.invariant-conditional-loop-arm
invariant-conditional-loop-arm l = l.out.items ≡ l.initial.out.items ++ flat_map expr_arm_spelling (take l.arm-index l.arms)
