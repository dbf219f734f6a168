use Rattle.std.proofs.Common.{◌≤◌, length, subst, sym, ◌∙◌, arith}
use Rattle.std.specs.List.{All}
use Rattle.std.proofs.lemmas.List.Elements.{All-push}
use Rattle.shared_run.proofs.WayLemmas.{all_reverse, way_done, way_more}
use Rattle.shared_run.proofs.ways.way_to.Goals as goal

pub loop-at-preserved : goal.loop-at-preserved
loop-at-preserved c = record {
  within = omega (arith, c.loop-at.invariant.within, c.parent-at.ensures.low);
  known = subst (All (λ n. (1 ≤ n) × (n ≤ length c.args.forest.now.nodes))) (sym c.in_ok-push.ensures.items)
      (All-push (λ n. (1 ≤ n) × (n ≤ length c.args.forest.now.nodes)) c.loop-at.nodes.items c.loop-at.at c.loop-at.invariant.known (omega (arith, c.at.view_is, c.loop-at-test.true), c.loop-at.invariant.within));
  gathered = way_more c.args.forest.now c.loop-at.nodes.items c.push.new.self.items c.loop-at.at c.parent-at.result c.args.end (omega (arith, c.at.view_is, c.loop-at-test.true)) c.loop-at.invariant.within
      c.parent-at.ensures.parent c.parent-at.ensures.low c.in_ok-push.ensures.items c.loop-at.invariant.gathered;
}

pub returns-clause-way : goal.returns-clause-way
returns-clause-way c =
    way_done c.args.forest.now c.loop-at.nodes.items c.from_vec.result c.loop-at.at c.args.end (omega (arith, c.at.view_is, c.loop-at-test.false)) c.loop-at.invariant.gathered
    (c.from_vec.ensures ∙ c.reverse.ensures.items)

pub returns-clause-within : goal.returns-clause-within
returns-clause-within c =
    subst (All (λ n. (1 ≤ n) × (n ≤ length c.args.forest.now.nodes))) (sym (c.from_vec.ensures ∙ c.reverse.ensures.items))
    (all_reverse (λ n. (1 ≤ n) × (n ≤ length c.args.forest.now.nodes)) c.loop-at.nodes.items c.loop-at.invariant.known)
