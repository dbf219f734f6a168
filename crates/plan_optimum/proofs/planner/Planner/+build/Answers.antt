use Rattle.std.proofs.Common.{arith, ◌≡◌, ◌<◌, ◌∙◌, ap, subst, refl, length, get_or, map}
use Rattle.plan_type.specs.Costs.{children_of}
use Rattle.plan_optimum.specs.Built.{IsBuilt, bare}
use Rattle.plan_optimum.specs.Entries.{choice_at, may_hold}
use Rattle.plan_optimum.proofs.Building.{pick_child, pick_may, picks_more, all_push, taken_all, built}
use Rattle.plan_optimum.proofs.Lookups.{offered}
use Rattle.plan_optimum.proofs.SiteLemmas.{child_of}
use Rattle.plan_optimum.proofs.planner.Planner.+build.Goals as goal

pub choose-requires-clause-frees : goal.choose-requires-clause-frees
choose-requires-clause-frees t c = (offered c.args.costs.now _ c.args.self.now c.args.at.now c.fees-fees.result c.offer_all.new.offers.items c.requires.sound c.requires.ready c.requires.stands c.fees-fees.ensures c.in_ok-offer_all.ensures).frees

pub choose-requires-clause-helds : goal.choose-requires-clause-helds
choose-requires-clause-helds t c = (offered c.args.costs.now _ c.args.self.now c.args.at.now c.fees-fees.result c.offer_all.new.offers.items c.requires.sound c.requires.ready c.requires.stands c.fees-fees.ensures c.in_ok-offer_all.ensures).helds

pub under-under-requires-clause-child : goal.under-under-requires-clause-child
under-under-requires-clause-child t c =
    let chosen = c.in_ok-picks.ensures (choice_at c.args.costs.now c.args.self.now c.args.at.now) (may_hold c.args.costs.now c.args.self.now c.args.at.now) (children_of c.args.costs.now c.args.at.now.node) c.in_ok-offer_all.ensures c.fees-fees.ensures in
    let lt = subst (λ l. c.loop-pick.pick-index < length l) c.as_slice-pick-items.ensures.value c.loop-pick-test.true in
    let at = c.pick-item.is ∙ ap (λ l. get_or l c.loop-pick.pick-index c.pick-item.result) c.as_slice-pick-items.ensures.value in
    pick_child c.args.costs.now c.args.at.now.node c.in_ok-picks.picks.items c.loop-pick.pick-index c.pick-item.result c.requires.sound chosen.orders lt at

pub under-under-requires-clause-hold : goal.under-under-requires-clause-hold
under-under-requires-clause-hold t c =
    let chosen = c.in_ok-picks.ensures (choice_at c.args.costs.now c.args.self.now c.args.at.now) (may_hold c.args.costs.now c.args.self.now c.args.at.now) (children_of c.args.costs.now c.args.at.now.node) c.in_ok-offer_all.ensures c.fees-fees.ensures in
    let lt = subst (λ l. c.loop-pick.pick-index < length l) c.as_slice-pick-items.ensures.value c.loop-pick-test.true in
    let at = c.pick-item.is ∙ ap (λ l. get_or l c.loop-pick.pick-index c.pick-item.result) c.as_slice-pick-items.ensures.value in
    pick_may (choice_at c.args.costs.now c.args.self.now c.args.at.now) (may_hold c.args.costs.now c.args.self.now c.args.at.now) (children_of c.args.costs.now c.args.at.now.node) c.in_ok-picks.picks.items c.loop-pick.pick-index c.pick-item.result chosen lt at

pub build-requires : goal.build-requires
build-requires t c =
    let chosen = c.in_ok-picks.ensures (choice_at c.args.costs.now c.args.self.now c.args.at.now) (may_hold c.args.costs.now c.args.self.now c.args.at.now) (children_of c.args.costs.now c.args.at.now.node) c.in_ok-offer_all.ensures c.fees-fees.ensures in
    let lt = subst (λ l. c.loop-pick.pick-index < length l) c.as_slice-pick-items.ensures.value c.loop-pick-test.true in
    let at = c.pick-item.is ∙ ap (λ l. get_or l c.loop-pick.pick-index c.pick-item.result) c.as_slice-pick-items.ensures.value in
    let parent = pick_child c.args.costs.now c.args.at.now.node c.in_ok-picks.picks.items c.loop-pick.pick-index c.pick-item.result c.requires.sound chosen.orders lt at in
    let k = child_of c.args.costs.now c.args.at.now.node c.pick-item.result.child c.requires.sound parent in let above = k.above in let below = k.below in
    let node = ap (λ s. s.node) c.under-under.ensures.value in
    (omega (arith, above, below, node), (c.requires.sound, (c.requires.ready, c.under-under.ensures.stands)))

pub loop-pick-preserved : goal.loop-pick-preserved
loop-pick-preserved t c =
    let chosen = c.in_ok-picks.ensures (choice_at c.args.costs.now c.args.self.now c.args.at.now) (may_hold c.args.costs.now c.args.self.now c.args.at.now) (children_of c.args.costs.now c.args.at.now.node) c.in_ok-offer_all.ensures c.fees-fees.ensures in
    let lt = subst (λ l. c.loop-pick.pick-index < length l) c.as_slice-pick-items.ensures.value c.loop-pick-test.true in
    let at = c.pick-item.is ∙ ap (λ l. get_or l c.loop-pick.pick-index c.pick-item.result) c.as_slice-pick-items.ensures.value in
    let parent = pick_child c.args.costs.now c.args.at.now.node c.in_ok-picks.picks.items c.loop-pick.pick-index c.pick-item.result c.requires.sound chosen.orders lt at in
    let may = pick_may (choice_at c.args.costs.now c.args.self.now c.args.at.now) (may_hold c.args.costs.now c.args.self.now c.args.at.now) (children_of c.args.costs.now c.args.at.now.node) c.in_ok-picks.picks.items c.loop-pick.pick-index c.pick-item.result chosen lt at in
    let rest = subst (λ s. IsBuilt c.args.costs.now c.args.self.now s c.in_ok-rest.rest) c.under-under.ensures.value c.in_ok-rest.ensures in
    record {
      picks = picks_more c.loop-pick.entries c.push.new.self (record { child = c.pick-item.result.child; hold = c.pick-item.result.hold; rest = c.in_ok-rest.rest }) c.as_slice-pick-items.result.now c.loop-pick.pick-index c.pick-item.result c.in_ok-push.ensures.ok c.loop-pick.invariant.picks c.loop-pick-test.true c.pick-item.is refl;
      entries = rw c.in_ok-push.ensures.ok (all_push _ c.loop-pick.entries (record { child = c.pick-item.result.child; hold = c.pick-item.result.hold; rest = c.in_ok-rest.rest }) c.loop-pick.invariant.entries (record { child = parent; may = may; rest = rest }));
    }

pub returns : goal.returns
returns t c =
    let chosen = c.in_ok-picks.ensures (choice_at c.args.costs.now c.args.self.now c.args.at.now) (may_hold c.args.costs.now c.args.self.now c.args.at.now) (children_of c.args.costs.now c.args.at.now.node) c.in_ok-offer_all.ensures c.fees-fees.ensures in
    let all : map bare c.loop-pick.entries ≡ c.in_ok-picks.picks.items = c.loop-pick.invariant.picks ∙ taken_all c.as_slice-pick-items.result.now c.loop-pick.pick-index (let t = c.loop-pick-test.false in let e = c.as_slice-pick-items.ensures.len in omega (arith, t, e)) ∙ c.as_slice-pick-items.ensures.value in
    built c.args.costs.now c.args.self.now c.args.at.now c.requires.sound c.requires.ready c.requires.stands c.of.result c.loop-pick.entries c.in_ok-picks.picks.items c.of.ensures all c.loop-pick.invariant.entries chosen
