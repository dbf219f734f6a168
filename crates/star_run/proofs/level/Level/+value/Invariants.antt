use Rattle.std.proofs.Common.{◌≡◌, map, drop, ℕ, ◌+◌, ◌*◌, max, Option, None, Some}
use Rattle.star_builtins.specs.Changes.{PairsFit}
use Rattle.star_builtins.specs.Reached.{AllFit, Fits}
use Rattle.star_meaning.specs.Expressions.{display_pairs, named_from, values_from}
use Rattle.star_meaning.specs.Steps.{and_then, Went}
use Rattle.star_run.specs.Fixed.{fixed, meaning}
use Rattle.star_run.specs.Parts.{arms, each_target, linked, meanings, named_meaning, named_operands, operands, pair_meaning, pairs, suffixes}
use Rattle.star_run.specs.Running.{Goes, world}
use Rattle.star_syntax.specs.declared.expression.Expr.{Expr, size-Expr}
use Rattle.star_syntax.specs.declared.expression.Expr.TheViews.{weight-Expr-Chain-2, weight-Expr-Conditional-0, weight-Expr-ListOver-1, weight-Expr-Primary-1}
use Rattle.star_run.specs.declared.gathered.Element.{Element}
use Rattle.star_run.specs.Gathers.{clauses, GatheredFit}
use Rattle.star_run.specs.Loops.{Stays, loop_at}
use Rattle.star_run.proofs.TurnLemmas.{Under, steps_of}
use Rattle.star_run.specs.declared.gathered.Element.TheVariants as element
use Rattle.star_run.proofs.level.Level.+value.Given as goal

-- each function goes down the tree, or stays and calls one of a lower number

abbrev size_within : Option Expr → ℕ
size_within None = 0
size_within (Some e) = size-Expr e

abbrev size_inside : Option (Option Expr) → ℕ
size_inside None = 0
size_inside (Some o) = size_within o

abbrev size_element : Element → ℕ
size_element (element.Item e) = size-Expr e.now
size_element (element.Pair k v) = max (size-Expr k.now) (size-Expr v.now)

abbrev pub decreases-value : goal.decreases-value
decreases-value g l = 16 * goal.size-value g l

abbrev pub decreases-values : goal.decreases-values
decreases-values g l = 16 * goal.size-values g l + 1

abbrev pub decreases-named : goal.decreases-named
decreases-named g l = 16 * goal.size-named g l + 1

abbrev pub decreases-pairs : goal.decreases-pairs
decreases-pairs g l = 16 * goal.size-pairs g l + 1

abbrev pub decreases-signed : goal.decreases-signed
decreases-signed g l = 16 * goal.size-signed g l + 1

abbrev pub decreases-negated : goal.decreases-negated
decreases-negated g l = 16 * goal.size-negated g l + 1

abbrev pub decreases-index : goal.decreases-index
decreases-index g l = 16 * goal.size-index g l + 1

abbrev pub decreases-tuple : goal.decreases-tuple
decreases-tuple g l = 16 * goal.size-tuple g l + 2

abbrev pub decreases-list : goal.decreases-list
decreases-list g l = 16 * goal.size-list g l + 2

abbrev pub decreases-dict : goal.decreases-dict
decreases-dict g l = 16 * goal.size-dict g l + 2

abbrev pub decreases-call_of : goal.decreases-call_of
decreases-call_of g l = 16 * goal.size-call_of g l + 2

abbrev pub decreases-method : goal.decreases-method
decreases-method g l = 16 * goal.size-method g l + 2

abbrev pub decreases-suffix : goal.decreases-suffix
decreases-suffix g l = 16 * goal.size-suffix g l + 4

abbrev pub decreases-suffixes : goal.decreases-suffixes
decreases-suffixes g l = 16 * goal.size-suffixes g l + 5

abbrev pub decreases-last_part : goal.decreases-last_part
decreases-last_part g l = 16 * goal.size-last_part g l + 5

abbrev pub decreases-parts : goal.decreases-parts
decreases-parts g l = 16 * goal.size-parts g l + 6

abbrev pub decreases-stored : goal.decreases-stored
decreases-stored g l = 16 * goal.size-stored g l + 6

abbrev pub decreases-store_each : goal.decreases-store_each
decreases-store_each g l = 16 * goal.size-store_each g l + 7

abbrev pub decreases-store_items : goal.decreases-store_items
decreases-store_items g l = 16 * goal.size-store_items g l + 8

abbrev pub decreases-store_in : goal.decreases-store_in
decreases-store_in g l = 16 * goal.size-store_in g l + 9

abbrev pub decreases-chain : goal.decreases-chain
decreases-chain g l = 16 * (max (size-Expr l.first.now) (weight-Expr-Chain-2 l.links.now)) + 1

abbrev pub decreases-compare : goal.decreases-compare
decreases-compare g l = 16 * (max (size-Expr l.left.now) (size-Expr l.right.now)) + 1

abbrev pub decreases-conditional : goal.decreases-conditional
decreases-conditional g l = 16 * (max (weight-Expr-Conditional-0 l.arms.now) (size-Expr l.last.now)) + 1

abbrev pub decreases-primary : goal.decreases-primary
decreases-primary g l = 16 * (max (size-Expr l.head.now) (weight-Expr-Primary-1 l.all.now)) + 6

abbrev pub decreases-place : goal.decreases-place
decreases-place g l = 16 * (max (size-Expr l.head.now) (weight-Expr-Primary-1 l.all.now)) + 7

abbrev pub decreases-store_place : goal.decreases-store_place
decreases-store_place g l = 16 * (max (size-Expr l.head.now) (weight-Expr-Primary-1 l.all.now)) + 8

abbrev pub decreases-optional : goal.decreases-optional
decreases-optional g l = 16 * size_within l.tree.now + 1

abbrev pub decreases-step_of : goal.decreases-step_of
decreases-step_of g l = 16 * size_inside l.step.now + 2

abbrev pub decreases-slice : goal.decreases-slice
decreases-slice g l = 16 * (max (max (size_within l.start.now) (size_within l.stop.now)) (size_inside l.step.now)) + 3

abbrev pub decreases-gather : goal.decreases-gather
decreases-gather g l = 16 * (size_element l.element) + 1

abbrev pub decreases-clauses : goal.decreases-clauses
decreases-clauses g l = 16 * (max (weight-Expr-ListOver-1 l.all.now) (size_element l.element)) + 10

abbrev pub decreases-turn : goal.decreases-turn
decreases-turn g l = 16 * (max (weight-Expr-ListOver-1 l.all.now) (size_element l.element)) + 11

abbrev pub decreases-over : goal.decreases-over
decreases-over g l = 16 * (max (weight-Expr-ListOver-1 l.all.now) (size_element l.element)) + 12

abbrev pub decreases-comprehension : goal.decreases-comprehension
decreases-comprehension g l = 16 * (max (weight-Expr-ListOver-1 l.all.now) (size_element l.element)) + 13

abbrev pub decreases-list_over : goal.decreases-list_over
decreases-list_over g l = 16 * (max (size-Expr l.item.now) (weight-Expr-ListOver-1 l.all.now)) + 14

abbrev pub decreases-dict_over : goal.decreases-dict_over
decreases-dict_over g l = 16 * (max (max (size-Expr l.key.now) (size-Expr l.value.now)) (weight-Expr-ListOver-1 l.all.now)) + 14

abbrev pub invariant-values-loop-tree : goal.invariant-values-loop-tree
invariant-values-loop-tree g l = record {
  same : values_from l.values (meanings (fixed l.self.given) l.self.depth (drop l.tree-index l.trees)) (world l.run) ≡ operands (fixed l.self.given) l.self.depth l.fn.trees (world l.fn.run);
  goes : Goes l.fn.run l.run;
  fit : AllFit l.run.machine l.values;
}

abbrev pub invariant-named-loop-one : goal.invariant-named-loop-one
invariant-named-loop-one g l = record {
  same : named_from l.values (map (named_meaning (fixed l.self.given) l.self.depth) (drop l.one-index l.all)) (world l.run) ≡ named_operands (fixed l.self.given) l.self.depth l.fn.all (world l.fn.run);
  goes : Goes l.fn.run l.run;
  fit : AllFit l.run.machine (map (λ entry. entry.1) l.values);
}

abbrev pub invariant-pairs-loop-pair : goal.invariant-pairs-loop-pair
invariant-pairs-loop-pair g l = record {
  same : display_pairs l.pairs (map (pair_meaning (fixed l.self.given) l.self.depth) (drop l.pair-index l.all)) (world l.run) ≡ pairs (fixed l.self.given) l.self.depth l.fn.all (world l.fn.run);
  goes : Goes l.fn.run l.run;
  fit : PairsFit l.run.machine l.pairs;
}

abbrev pub invariant-chain-loop-link : goal.invariant-chain-loop-link
invariant-chain-loop-link g l = record {
  same : linked (fixed l.self.given) l.self.depth (drop l.link-index l.links) l.value (world l.run)
      ≡ and_then ((meaning (fixed l.self.given) l.self.depth l.fn.first).value (world l.fn.run)) (linked (fixed l.self.given) l.self.depth l.fn.links);
  goes : Goes l.fn.run l.run;
  fit : Fits l.run.machine l.value;
}

abbrev pub invariant-conditional-loop-arm : goal.invariant-conditional-loop-arm
invariant-conditional-loop-arm g l = record {
  same : arms (fixed l.self.given) l.self.depth (drop l.arm-index l.arms) l.last (world l.run) ≡ arms (fixed l.self.given) l.self.depth l.fn.arms l.fn.last (world l.fn.run);
  goes : Goes l.fn.run l.run;
}

abbrev pub invariant-suffixes-loop-suffix : goal.invariant-suffixes-loop-suffix
invariant-suffixes-loop-suffix g l = record {
  same : suffixes (fixed l.self.given) l.self.depth (drop l.suffix-index l.all) l.value (world l.run) ≡ suffixes (fixed l.self.given) l.self.depth l.fn.all l.fn.of (world l.fn.run);
  goes : Goes l.fn.run l.run;
  fit : Fits l.run.machine l.value;
}

abbrev pub invariant-store_each-loop-place : goal.invariant-store_each-loop-place
invariant-store_each-loop-place g l = record {
  same : each_target (fixed l.self.given) l.self.depth (drop l.place l.trees) (drop l.place l.items) (world l.run) ≡ each_target (fixed l.self.given) l.self.depth l.fn.trees l.fn.items (world l.fn.run);
  goes : Goes l.fn.run l.run;
  fit : AllFit l.run.machine l.items;
}

abbrev pub invariant-clauses-loop-at : goal.invariant-clauses-loop-at
invariant-clauses-loop-at g l = record {
  same : clauses (fixed l.self.given) l.self.depth (drop l.at l.all) l.element l.gathered (world l.run) ≡ clauses (fixed l.self.given) l.self.depth (drop l.fn.from l.all) l.element l.gathered (world l.fn.run);
  stays : Stays l.self.given.node l.fn.run l.run;
  goes : Goes l.fn.run l.run;
}

abbrev pub invariant-over-loop-inner : goal.invariant-over-loop-inner
invariant-over-loop-inner g l = record {
  under : Under (fixed l.self.given) l.self.depth l.all l.element l.fn.run
      (loop_at (fixed l.self.given) l.self.depth l.all l.element l.fn.first.clause l.fn.first.of l.fn.gathered (world l.fn.run)) l.run l.loops (Went l.gathered (world l.run));
  fit : GatheredFit l.run.machine l.gathered;
}

abbrev pub decreases-over-loop-inner : goal.decreases-over-loop-inner
decreases-over-loop-inner g l = steps_of l.run l.loops
